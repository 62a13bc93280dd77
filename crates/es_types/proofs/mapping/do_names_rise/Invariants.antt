-- The rest decides.
use Rattle.std.proofs.Common.{◌≡◌, length}
use Rattle.es_types.specs.Fields.{names_rise}
use Rattle.es_types.proofs.mapping.do_names_rise.Given as goal

abbrev pub invariant-loop-rest : goal.invariant-loop-rest
invariant-loop-rest l = names_rise l.rest ≡ names_rise l.fn.fields

abbrev pub decreases-loop-rest : goal.decreases-loop-rest
decreases-loop-rest l = length l.rest
