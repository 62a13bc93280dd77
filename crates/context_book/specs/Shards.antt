-- The rows of some shards, and between which values they lie.
use Rattle.std.specs.Prelude.{List, map}
use Rattle.std.specs.Arc.{arc_value}
use Rattle.std.specs.declared.sync.Arc.{Arc}
use Rattle.es_types.specs.declared.bounds.Bounds.{Bounds}
use Rattle.es_types.specs.declared.row.Row.{Row}
use Rattle.context_book.specs.declared.shard_view.ShardView.{ShardView}

abbrev pub rows_of_each : {Z : Type 0} → List (Arc ShardView Z) → List (List Row)
rows_of_each {Z} shards = map (λ (shard : Arc ShardView Z). (arc_value shard).rows) shards

abbrev pub bounds_in : {Z : Type 0} → List (Arc ShardView Z) → List Bounds
bounds_in {Z} shards = map (λ (shard : Arc ShardView Z). (arc_value shard).bounds) shards
