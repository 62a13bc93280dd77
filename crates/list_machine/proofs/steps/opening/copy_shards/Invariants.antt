-- The copies so far have the rows of the shards so far.
use Rattle.std.proofs.Common.{◌≡◌, map, take}
use Rattle.list_machine.specs.declared.store.ShardStore.{ShardStore}
use Rattle.list_machine.proofs.steps.opening.copy_shards.Given as goal

abbrev pub invariant-loop-shard : goal.invariant-loop-shard
invariant-loop-shard l = map (λ rows. rows.items) l.copies.items ≡ map (λ (shard : ShardStore). shard.rows.items) (take l.shard-index l.shards)
