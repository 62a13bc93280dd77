-- The count so far, where it fits.
use Rattle.std.proofs.Common.{◌≡◌, length, min, sum_by, take}
use Rattle.context_book.specs.declared.view.View.{View}
use Rattle.reader_gate.specs.declared.owner.Owner.{Owner}
use Rattle.es_core.proofs.contexts.count_shards.Given as goal

abbrev pub invariant-loop-owner : goal.invariant-loop-owner
invariant-loop-owner l = l.count ≡ min (sum_by (λ (owner : Owner View). length owner.body.shards) (take l.owner-index l.owners)) 18446744073709551615
