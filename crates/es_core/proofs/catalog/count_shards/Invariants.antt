-- The count so far, where it fits.
use Rattle.std.proofs.Common.{◌≡◌, length, min, sum_by, take}
use Rattle.es_core.specs.declared.index.Index.{Index}
use Rattle.es_core.proofs.catalog.count_shards.Given as goal

abbrev pub invariant-loop-index : goal.invariant-loop-index
invariant-loop-index l = l.count ≡ min (sum_by (λ (index : Index). length index.shards.items) (take l.index-index l.indexes)) 18446744073709551615
