-- The shards so far are empty.
use Rattle.std.proofs.Common.{◌≡◌, replicate}
use Rattle.list_machine.specs.State.{empty_shard}
use Rattle.list_machine.specs.Seen.Stores.{shards_seen}
use Rattle.list_machine.proofs.steps.creating.make_index.Given as goal

abbrev pub invariant-loop-shard : goal.invariant-loop-shard
invariant-loop-shard l = shards_seen l.made.items ≡ replicate l._shard empty_shard
