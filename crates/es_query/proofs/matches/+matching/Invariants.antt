-- The answer so far is that of the queries so far.
use Rattle.std.proofs.Common.{◌≡◌, ◌≤◌, count_by, take, true, false}
use Rattle.std.specs.List.{list_all, list_any}
use Rattle.es_query.specs.Matches.{matches}
use Rattle.es_query.proofs.matches.+matching.Given as goal

abbrev pub invariant-all_match-loop-query : goal.invariant-all_match-loop-query
invariant-all_match-loop-query l = list_all (matches l.mapping l.values) (take l.query-index l.queries) ≡ true

abbrev pub invariant-any_matches-loop-query : goal.invariant-any_matches-loop-query
invariant-any_matches-loop-query l = list_any (matches l.mapping l.values) (take l.query-index l.queries) ≡ false

abbrev pub invariant-count_matching-loop-query : goal.invariant-count_matching-loop-query
invariant-count_matching-loop-query l =
    (l.count ≡ count_by (matches l.mapping l.values) (take l.query-index l.queries)) × (l.count ≤ l.query-index)
