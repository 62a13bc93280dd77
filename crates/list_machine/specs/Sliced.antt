-- How the slices of a search share its places out.
use Rattle.std.specs.Prelude.{◌≡◌, ℕ, ◌<◌, Bool, length, Some, Contains}
use Rattle.es_query.specs.declared.query.Query.{Query}
use Rattle.es_sort.specs.declared.sort.SortSpec.{SortSpec}
use Rattle.slice_rule.specs.declared.slice.Slice.{Slice}
use Rattle.list_machine.specs.Views.{Place, View, enumeration, is_had, shards_of}

abbrev pub slice_of : ℕ → ℕ → Slice
slice_of max id = record { id = id; max = max }

-- whether one of so many slices of a view has a place
abbrev pub has_place : View → ℕ → ℕ → Place → Bool
has_place view max id place = is_had (length (shards_of view)) (Some (slice_of max id)) place.shard place.rank

-- one of so many slices has the place in its enumeration, and no other has
pub record IsInOne (view : View) (query : Query) (sort : SortSpec) (max : ℕ) (place : Place) : Type 0 where
  pub id : ℕ
  pub below : id < max
  pub there : Contains (enumeration view query sort (Some (slice_of max id))) place
  pub alone : (other : ℕ) → Contains (enumeration view query sort (Some (slice_of max other))) place → other ≡ id
