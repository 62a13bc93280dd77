-- What has been shared out, and then what is left by the same test, are all.
use Rattle.std.proofs.Common.{◌≡◌, ◌+◌, ◌≤◌, ◌++◌, length, map}
use Rattle.std.specs.List.{count_by, filter}
use Rattle.std.specs.Vec.{vec_capacity, vec_len}
use Rattle.std.specs.Vec.Iter.{into_iter_items, into_iter_len}
use Rattle.context_book.specs.declared.context.Context.{Context}
use Rattle.context_book.specs.Leavings.{leaves, stays}
use Rattle.context_book.proofs.leaving.share_out.Given as goal

abbrev pub invariant-loop-context : goal.invariant-loop-context
invariant-loop-context l = record {
  gone : l.gone.items ++ map (λ (context : Context). context.owner) (filter (leaves l.leaving l.now) (into_iter_items l.context-iterator))
      ≡ map (λ (context : Context). context.owner) (filter (leaves l.leaving l.now) l.fn.all.items);
  kept : l.kept.items ++ filter (stays l.leaving l.now) (into_iter_items l.context-iterator)
      ≡ filter (stays l.leaving l.now) l.fn.all.items;
  room : vec_len l.gone + count_by (leaves l.leaving l.now) (into_iter_items l.context-iterator) ≤ vec_capacity l.gone;
  place : vec_len l.kept + count_by (stays l.leaving l.now) (into_iter_items l.context-iterator) ≤ vec_capacity l.kept;
  counted : into_iter_len l.context-iterator ≡ length (into_iter_items l.context-iterator);
}
