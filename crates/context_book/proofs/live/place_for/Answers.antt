use Rattle.std.proofs.Common.{ltb, rules}
use Rattle.std.proofs.lemmas.List.Sorted.{IsPartitionPoint-from_clause, IsPartitionedBy-ltb}
use Rattle.context_book.proofs.Rising.{bordered, numbers_rise}
use Rattle.context_book.proofs.live.place_for.Goals as goal

pub returns : goal.returns
returns c =
    let contexts = c.args.contexts.now in
    let number = c.args.number in
    let parts = IsPartitionPoint-from_clause
    (λ context. ltb context.number number) contexts c.partition_point.result c.partition_point.ensures.partitioned
    (IsPartitionedBy-ltb (λ context. context.number) contexts number (numbers_rise contexts c.requires)) (λ a r f called. search rules) in
    bordered contexts number c.partition_point.result c.partition_point.ensures.bound parts.0 parts.1
