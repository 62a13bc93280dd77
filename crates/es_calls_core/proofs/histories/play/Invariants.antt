-- each step is one entry
use Rattle.std.proofs.Common.{◌≡◌}
use Rattle.es_calls_core.proofs.histories.play.Given as goal

abbrev pub invariant-loop-line : goal.invariant-loop-line
invariant-loop-line g l = l.machine.entries ≡ l.steps
