-- The contexts so far are raised, and the others are as they were.
use Rattle.std.proofs.Common.{◌≡◌, ◌++◌, drop, map, take}
use Rattle.list_machine.specs.Seen.Stores.{contexts_seen, raised}
use Rattle.list_machine.proofs.steps.keeping.raise.Given as goal

abbrev pub invariant-loop-context : goal.invariant-loop-context
invariant-loop-context l =
    let old = contexts_seen l.fn.contexts.items in
    contexts_seen l.context-items ≡ map (raised l.number l.till) (take l.context-index old) ++ drop l.context-index old
