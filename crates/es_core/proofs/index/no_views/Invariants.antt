-- There are none so far.
use Rattle.std.proofs.Common.{◌≡◌, None, replicate}
use Rattle.es_core.proofs.index.no_views.Given as goal

abbrev pub invariant-loop-made : goal.invariant-loop-made
invariant-loop-made l = l.views.items ≡ replicate l._made None
