-- Each call goes to a value that nests less deep, or is nearer to its queries. The clauses that were found, and those of the
-- members that are left, are all clauses, and so with the queries of a list.
use Rattle.std.proofs.Common.{◌≡◌, ◌+◌, ◌*◌, ◌≤◌, drop}
use Rattle.serde_json.specs.Data.{depth, items_depth, members_depth}
use Rattle.serde_json.specs.View.{items_view, members_view, view}
use Rattle.search_json.specs.Queries.{clauses_in, no_clauses, queries_in}
use Rattle.search_json.proofs.Lists.{onto}
use Rattle.search_json.proofs.query.+queries.Given as goal

abbrev pub decreases-query_of : goal.decreases-query_of
decreases-query_of l = 4 * depth (view l.value.now)

abbrev pub decreases-bool_of : goal.decreases-bool_of
decreases-bool_of l = 4 * depth (view l.value.now) + 3

abbrev pub decreases-clauses_in : goal.decreases-clauses_in
decreases-clauses_in l = 4 * members_depth (members_view l.members.now.entries) + 3

abbrev pub decreases-with_clause : goal.decreases-with_clause
decreases-with_clause l = 4 * depth (view l.value.now) + 2

abbrev pub decreases-queries_of : goal.decreases-queries_of
decreases-queries_of l = 4 * depth (view l.value.now) + 1

abbrev pub decreases-queries_in : goal.decreases-queries_in
decreases-queries_in l = 4 * items_depth (items_view l.values.now) + 1

abbrev pub invariant-clauses_in-loop-name : goal.invariant-clauses_in-loop-name
invariant-clauses_in-loop-name l = record {
  rest : clauses_in (members_view l.name-iterator) l.found ≡ clauses_in (members_view l.members.entries) no_clauses;
  within : members_depth (members_view l.name-iterator) ≤ members_depth (members_view l.members.entries);
}

abbrev pub invariant-queries_in-loop-value : goal.invariant-queries_in-loop-value
invariant-queries_in-loop-value l = onto l.queries.items (queries_in (items_view (drop l.value-index l.values))) ≡ queries_in (items_view l.values)
