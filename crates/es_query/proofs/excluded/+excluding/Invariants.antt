-- The answer so far is that of the queries so far.
use Rattle.std.proofs.Common.{◌≡◌, ◌≤◌, count_by, not, take, false}
use Rattle.std.specs.List.{list_any}
use Rattle.es_query.specs.Excluded.{ruled_out}
use Rattle.es_query.proofs.excluded.+excluding.Given as goal

abbrev pub invariant-any_ruled_out-loop-query : goal.invariant-any_ruled_out-loop-query
invariant-any_ruled_out-loop-query l = list_any (ruled_out l.mapping l.bounds) (take l.query-index l.queries) ≡ false

abbrev pub invariant-count_left-loop-query : goal.invariant-count_left-loop-query
invariant-count_left-loop-query l =
    (l.count ≡ count_by (λ query. not (ruled_out l.mapping l.bounds query)) (take l.query-index l.queries)) × (l.count ≤ l.query-index)
