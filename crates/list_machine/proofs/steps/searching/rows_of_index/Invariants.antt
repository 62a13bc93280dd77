-- The rows so far.
use Rattle.std.proofs.Common.{◌≡◌, map, take}
use Rattle.list_machine.specs.declared.store.ShardStore.{ShardStore}
use Rattle.list_machine.proofs.steps.searching.rows_of_index.Given as goal

abbrev pub invariant-loop-shard : goal.invariant-loop-shard
invariant-loop-shard l = map (λ rows. rows.now) l.rows.items ≡ map (λ (shard : ShardStore). shard.rows.items) (take l.shard-index l.shards)
