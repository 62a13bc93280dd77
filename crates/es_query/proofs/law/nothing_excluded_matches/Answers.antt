use Rattle.es_query.proofs.Misses.{excluded_misses}
use Rattle.es_query.proofs.law.nothing_excluded_matches.Goals as goal

pub returns : goal.returns
returns c = excluded_misses
