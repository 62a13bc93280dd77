use Rattle.std.proofs.Common.{◌≤◌, ap, ◌∙◌, arith}
use Rattle.std.proofs.lemmas.Result.{on_err_weaker, on_ok_weaker}
use Rattle.std.proofs.Math.Seq.{map-set_same}
use Rattle.list_machine.specs.declared.store.ShardStore.{ShardStore}
use Rattle.list_machine.specs.Rows.{Shard, last_number}
use Rattle.list_machine.specs.Seen.Stores.{most_entries, shard_seen}
use Rattle.list_machine.proofs.StoreLemmas.{All-from_map, All-read, publish_in_is}
use Rattle.list_machine.proofs.steps.publishing.publish_in.Goals as goal

pub publish_shard-requires : goal.publish_shard-requires
publish_shard-requires c =
    All-read (λ (shard : ShardStore). last_number (shard_seen shard) ≤ most_entries) c.args.shards.now.items c.args.at c.index_mut.result.now (omega arith) c.index_mut.ensures.value
    (All-from_map (λ (shard : Shard). last_number shard ≤ most_entries) shard_seen c.args.shards.now.items c.requires)

pub returns-clause-ok : goal.returns-clause-ok
returns-clause-ok c =
    on_ok_weaker c.publish_shard.result
    (λ makes. publish_in_is c.args.shards.now.items c.args.at c.args.upto c.index_mut.result.now c.publish_shard.new.shard (omega arith) c.index_mut.ensures.value makes)
    c.publish_shard.ensures.ok

pub returns-clause-err : goal.returns-clause-err
returns-clause-err c =
    on_err_weaker c.publish_shard.result
    (λ same. map-set_same shard_seen c.args.shards.now.items c.args.at c.publish_shard.new.shard c.index_mut.result.now (same ∙ ap shard_seen c.index_mut.ensures.value))
    c.publish_shard.ensures.err
