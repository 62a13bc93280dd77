-- The references so far are to the shards so far.
use Rattle.std.proofs.Common.{◌≡◌, map, take}
use Rattle.list_machine.specs.declared.page.view.ShardRef.{ShardRef}
use Rattle.context_book.specs.Shards.{bounds_in, rows_of_each}
use Rattle.context_book.proofs.view.refs_of.Given as goal

abbrev pub invariant-loop-shard : goal.invariant-loop-shard
invariant-loop-shard l = record {
  rows : map (λ (shard : ShardRef). shard.rows.now) l.refs.items ≡ rows_of_each (take l.shard-index l.shards);
  bounds : map (λ (shard : ShardRef). shard.bounds.now) l.refs.items ≡ bounds_in (take l.shard-index l.shards);
}
