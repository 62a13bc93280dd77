-- Those that are live among the first ones are counted.
use Rattle.std.proofs.Common.{◌≡◌, take}
use Rattle.std.specs.List.{count_by}
use Rattle.list_machine.specs.State.{is_live}
use Rattle.list_machine.specs.Seen.Stores.{context_seen}
use Rattle.list_machine.proofs.steps.opening.live_contexts.Given as goal

abbrev pub invariant-loop-context : goal.invariant-loop-context
invariant-loop-context l = l.count ≡ count_by (λ context. is_live l.moment (context_seen context)) (take l.context-index l.contexts)
