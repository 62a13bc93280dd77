use Rattle.std.proofs.Common.{◌≡◌, ◌≤◌, ap, length, ◌∙◌, arith}
use Rattle.std.proofs.lemmas.Result.{on_err_weaker}
use Rattle.std.proofs.Math.Seq.{map-set_same}
use Rattle.es_types.specs.Homes.{shard_of}
use Rattle.list_machine.specs.declared.store.ShardStore.{ShardStore}
use Rattle.list_machine.specs.Rows.{Shard, last_number}
use Rattle.list_machine.specs.Seen.Stores.{most_entries, shard_seen}
use Rattle.list_machine.proofs.StoreLemmas.{All-from_map, All-read, write_in_done}
use Rattle.list_machine.proofs.steps.writing.write_in.Goals as goal

pub write_shard-requires : goal.write_shard-requires
write_shard-requires c =
    All-read (λ (shard : ShardStore). last_number (shard_seen shard) ≤ most_entries) c.args.shards.now.items c.shard_of-home.result c.index_mut.result.now (omega arith) c.index_mut.ensures.value
    (All-from_map (λ (shard : Shard). last_number shard ≤ most_entries) shard_seen c.args.shards.now.items c.requires.numbers)

pub returns-clause-ok : goal.returns-clause-ok
returns-clause-ok c =
    let many : c.len.result ≡ length c.args.shards.now.items = omega arith in
    write_in_done c.args.mapping.now c.args.shards.now.items c.args.id.now c.args.change.now c.in-Ok.op c.shard_of-home.result c.index_mut.result.now c.write_shard.new.shard
    c.in-Ok.ensures (c.shard_of-home.ensures.is ∙ ap (shard_of c.args.id.now) many) (omega arith) c.index_mut.ensures.value
    c.write_shard.result c.write_shard.ensures.ok

pub returns-clause-err : goal.returns-clause-err
returns-clause-err c =
    on_err_weaker c.write_shard.result
    (λ same. map-set_same shard_seen c.args.shards.now.items c.shard_of-home.result c.write_shard.new.shard c.index_mut.result.now (same ∙ ap shard_seen c.index_mut.ensures.value))
    c.write_shard.ensures.err
