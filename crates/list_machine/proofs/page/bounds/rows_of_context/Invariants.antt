-- The rows so far.
use Rattle.std.proofs.Common.{◌≡◌, map, take}
use Rattle.list_machine.proofs.page.bounds.rows_of_context.Given as goal

abbrev pub invariant-loop-shard : goal.invariant-loop-shard
invariant-loop-shard l = map (λ rows. rows.now) l.rows.items ≡ map (λ shard. shard.items) (take l.shard-index l.shards)
