use Rattle.es_route.proofs.Ranks.{least_is_told}
use Rattle.es_route.proofs.law.least_limit_is_told.Goals as goal

pub returns : goal.returns
returns c = least_is_told
