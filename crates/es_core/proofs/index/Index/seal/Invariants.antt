-- The numbers so far are those of the shards so far.
use Rattle.std.proofs.Common.{◌≡◌, map, take}
use Rattle.es_core.specs.Shards.{sealed}
use Rattle.es_core.proofs.index.Index.seal.Given as goal

abbrev pub invariant-loop-shard : goal.invariant-loop-shard
invariant-loop-shard l = l.numbers.items ≡ map sealed (take l.shard-index l.self.shards.items)
