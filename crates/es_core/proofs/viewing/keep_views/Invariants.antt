-- The views so far are those of the shards so far, and are kept.
use Rattle.std.proofs.Common.{◌≡◌, ℕ, ◌<◌, None, get_or, map, take, IsSome}
use Rattle.context_book.specs.Shards.{bounds_in, rows_of_each}
use Rattle.list_machine.specs.Seen.Stores.{bounds_of_each}
use Rattle.es_core.specs.Shards.{AreShown}
use Rattle.es_core.proofs.ShownLemmas.{rows_in}
use Rattle.es_core.proofs.viewing.keep_views.Given as goal

abbrev pub invariant-loop-at : goal.invariant-loop-at
invariant-loop-at l = record {
  shown : AreShown l.mapping (rows_in l.shards) l.views.items;
  rows : rows_of_each l.them.items ≡ rows_in (take l.at l.shards);
  bounds : bounds_in l.them.items ≡ bounds_of_each l.mapping (rows_in (take l.at l.shards));
  kept : (k : ℕ) → k < l.at → IsSome (get_or l.views.items k None);
}
