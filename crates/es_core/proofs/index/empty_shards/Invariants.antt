-- The shards so far are empty.
use Rattle.std.proofs.Common.{◌≡◌, replicate}
use Rattle.list_machine.specs.State.{empty_shard}
use Rattle.es_core.proofs.index.empty_shards.Given as goal

abbrev pub invariant-loop-made : goal.invariant-loop-made
invariant-loop-made l = l.shards.items ≡ replicate l._made empty_shard
