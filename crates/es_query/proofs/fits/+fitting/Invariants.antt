-- The queries so far fit.
use Rattle.std.proofs.Common.{◌≡◌, take, true}
use Rattle.std.specs.List.{list_all}
use Rattle.es_query.specs.Fits.{fits}
use Rattle.es_query.proofs.fits.+fitting.Given as goal

abbrev pub invariant-all_fit-loop-query : goal.invariant-all_fit-loop-query
invariant-all_fit-loop-query l = list_all (fits l.mapping) (take l.query-index l.queries) ≡ true
