-- One of those that are taken less each time.
use Rattle.std.proofs.Common.{length}
use Rattle.es_route.proofs.values.+key_of.Given as goal

abbrev pub decreases-key_of : goal.decreases-key_of
decreases-key_of l = length l.taken.now
