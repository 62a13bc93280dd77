-- A parameter less each time.
use Rattle.std.proofs.Common.{length}
use Rattle.es_route.proofs.values.+values_in.Given as goal

abbrev pub decreases-values_in : goal.decreases-values_in
decreases-values_in l = length l.params.now
