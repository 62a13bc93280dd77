use Rattle.std.proofs.Common.{ap, ◌∙◌}
use Rattle.std.proofs.Math.Seq.{map-set_same}
use Rattle.list_machine.specs.Rows.{Shard}
use Rattle.es_core.proofs.index.write_home.Goals as goal

pub returns-clause-rows : goal.returns-clause-rows
returns-clause-rows c =
    map-set_same (λ (shard : Shard). shard.rows) c.args.shards.now.items c.shard_of-home.result c.write_shard.new.shard c.index_mut.result.now
    (c.write_shard.ensures.rows ∙ ap (λ (shard : Shard). shard.rows) c.index_mut.ensures.value)
