-- What is asked of one shard, and which views of shards are kept.
use Rattle.std.specs.Prelude.{◌≡◌, ℕ, ◌≤◌, ◌&&◌, min, Bool, true, false, nat_le, nat_lt, if◌then◌else◌, List, [], length, Option, Some, None, Result, Ok, Err, IfSome, slice_set}
use Rattle.std.specs.Arc.{arc_value}
use Rattle.std.specs.declared.sync.Arc.{Arc}
use Rattle.std.proofs.Common.{get_or}
use Rattle.es_types.specs.declared.fail.Fail.{Fail}
use Rattle.es_types.specs.declared.fail.Fail.TheVariants.{Is, NoMemory}
use Rattle.es_types.specs.declared.mapping.Field.{Field}
use Rattle.es_types.specs.declared.row.Row.{Row}
use Rattle.es_query.specs.Limits.{bounds_of}
use Rattle.context_book.specs.declared.shard_view.ShardView.{ShardView}
use Rattle.list_machine.specs.Rows.{Shard, last_number}

-- whether a call was refused for a reason of its own
abbrev pub is_refused : {A E : Type 0} → Result A (Fail E) → Bool
is_refused (Ok value) = false
is_refused (Err (Is error)) = true
is_refused (Err NoMemory) = false

-- the number of the last operation, where it fits
abbrev pub sealed : Shard → ℕ
sealed shard = min (last_number shard) 18446744073709551615

-- whether a publish up to a number applies an operation
abbrev pub applies : Shard → ℕ → Bool
applies shard upto = nat_lt shard.base upto && nat_le upto (last_number shard)

-- a view that is kept of a shard has these rows, and their bounds
abbrev pub IsShown : {Z : Type 0} → List Field → List Row → Option (Arc ShardView Z) → Type 0
IsShown mapping rows view = IfSome view (λ it. ((arc_value it).rows ≡ rows) × ((arc_value it).bounds ≡ bounds_of mapping rows))

-- so have those of all shards
abbrev pub AreShown : {Z : Type 0} → List Field → List (List Row) → List (Option (Arc ShardView Z)) → Type 0
AreShown mapping rows views = (length views ≡ length rows) × ((at : ℕ) → IsShown mapping (get_or rows at []) (get_or views at None))

-- the views that are kept once the shard at a place was published: its own goes where an operation was applied
abbrev pub views_left : {V : Type 0} → List (Option V) → ℕ → ℕ → Option Shard → List (Option V)
views_left views at upto None = views
views_left views at upto (Some shard) = if applies shard upto then slice_set views at None else views
