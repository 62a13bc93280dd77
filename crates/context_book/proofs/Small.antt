-- The shards of a view have few rows.
use Rattle.std.proofs.Common.{◌≤◌, ℕ, List, length, get_or, All, arith}
use Rattle.std.specs.Arc.{arc_value}
use Rattle.std.specs.declared.sync.Arc.{Arc}
use Rattle.std.proofs.lemmas.List.{length-map}
use Rattle.std.proofs.lemmas.List.Elements.{All-map}
use Rattle.es_types.specs.declared.limits.TheConstants.{ALL_SHARDS, SHARD_ROWS}
use Rattle.es_types.specs.declared.mapping.Field.{Field}
use Rattle.es_types.specs.declared.row.Row.{Row}
use Rattle.list_machine.specs.Seen.Stores.{IsCountable, view_over}
use Rattle.context_book.specs.declared.shard_view.ShardView.{ShardView}
use Rattle.context_book.specs.Shards.{rows_of_each}

-- each shard says so of its own
few_rows : {Z : Type 0} (shards : List (Arc ShardView Z)) → All (λ (rows : List Row). length rows ≤ SHARD_ROWS) (rows_of_each shards)
few_rows {Z} shards =
    All-map (λ (rows : List Row). length rows ≤ SHARD_ROWS) (λ (shard : Arc ShardView Z). (arc_value shard).rows) shards
    (λ k d within. (arc_value (get_or shards k d)).few)

-- so a search can count them
pub countable : {Z : Type 0} (index : List ℕ) (mapping : List Field) (shards : List (Arc ShardView Z))
    → length shards ≤ ALL_SHARDS → IsCountable (view_over index mapping (rows_of_each shards))
countable {Z} index mapping shards few = record {
  few = omega (arith, length-map shards (λ (shard : Arc ShardView Z). (arc_value shard).rows));
  rows = few_rows shards;
}
