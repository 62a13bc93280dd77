-- The copies so far are the queries so far.
use Rattle.std.proofs.Common.{◌≡◌, take}
use Rattle.es_query.proofs.query.+copying.Given as goal

abbrev pub invariant-copy_all-loop-query : goal.invariant-copy_all-loop-query
invariant-copy_all-loop-query l = l.all.items ≡ take l.query-index l.queries
