-- The count so far.
use Rattle.std.proofs.Common.{◌≡◌, take}
use Rattle.list_machine.proofs.Freed.{freed_in}
use Rattle.list_machine.proofs.steps.closing.count_freed.Given as goal

abbrev pub invariant-loop-context : goal.invariant-loop-context
invariant-loop-context l = l.freed ≡ freed_in l.moment l.which (take l.context-index l.contexts)
