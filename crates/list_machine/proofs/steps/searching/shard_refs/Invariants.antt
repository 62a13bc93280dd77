-- The shards so far.
use Rattle.std.proofs.Common.{◌≡◌, map, take}
use Rattle.list_machine.proofs.steps.searching.shard_refs.Given as goal

abbrev pub invariant-loop-at : goal.invariant-loop-at
invariant-loop-at l = (map (λ shard. shard.rows.now) l.shards.items ≡ map (λ rows. rows.now) (take l.at l.rows)) × (map (λ shard. shard.bounds.now) l.shards.items ≡ take l.at l.bounds)
