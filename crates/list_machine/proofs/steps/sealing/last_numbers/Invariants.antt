-- The numbers so far are those of the shards so far.
use Rattle.std.proofs.Common.{◌≡◌, map, take}
use Rattle.list_machine.specs.declared.store.ShardStore.{ShardStore}
use Rattle.list_machine.specs.Rows.{last_number}
use Rattle.list_machine.specs.Seen.Stores.{shard_seen}
use Rattle.list_machine.proofs.steps.sealing.last_numbers.Given as goal

abbrev pub invariant-loop-shard : goal.invariant-loop-shard
invariant-loop-shard l = l.numbers.items ≡ map (λ (shard : ShardStore). last_number (shard_seen shard)) (take l.shard-index l.shards)
