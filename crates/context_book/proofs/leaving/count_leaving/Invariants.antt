-- Those that leave among the first ones are counted.
use Rattle.std.proofs.Common.{◌≡◌, take}
use Rattle.std.specs.List.{count_by}
use Rattle.context_book.specs.Leavings.{leaves}
use Rattle.context_book.proofs.leaving.count_leaving.Given as goal

abbrev pub invariant-loop-context : goal.invariant-loop-context
invariant-loop-context l = l.count ≡ count_by (leaves l.leaving l.now) (take l.context-index l.contexts)
