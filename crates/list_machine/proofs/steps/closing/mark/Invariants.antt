-- The contexts so far are marked, and the others are as they were.
use Rattle.std.proofs.Common.{◌≡◌, ◌++◌, drop, map, take}
use Rattle.list_machine.specs.Step.{close_one}
use Rattle.list_machine.specs.Seen.Stores.{contexts_seen}
use Rattle.list_machine.proofs.steps.closing.mark.Given as goal

abbrev pub invariant-loop-context : goal.invariant-loop-context
invariant-loop-context l =
    let old = contexts_seen l.fn.contexts.items in
    contexts_seen l.context-items ≡ map (close_one l.moment l.which) (take l.context-index old) ++ drop l.context-index old
