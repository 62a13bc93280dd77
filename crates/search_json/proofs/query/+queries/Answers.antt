-- An item of a list nests less deep than the list.
use Rattle.std.proofs.Common.{arith}
use Rattle.search_json.proofs.Depths.{item_depth}
use Rattle.search_json.proofs.query.+queries.Goals as goal

pub queries_in-query_of-requires : goal.queries_in-query_of-requires
queries_in-query_of-requires t c =
    (omega (arith, item_depth c.args.values.now c.loop-value.value-index c.value-item.result (omega arith) c.value-item.is), tt)
