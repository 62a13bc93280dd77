-- Which slice of a search a body asks for (Elasticsearch's reference, "Paginate search results", on search slicing): `id` and
-- `max` are both needed.
use Rattle.std.specs.Prelude.{ℕ, ◌||◌, nat_le, nat_lt, Bool, false, if◌then◌else◌, List, [], ◌∷◌, Option, Some, None, option_map, option_and_then, codes}
use Rattle.serde_json.specs.Data.{Data}
use Rattle.serde_json.specs.Find.{get}
use Rattle.slice_rule.specs.declared.slice.TheConstants.{LEAST_SLICES, MOST_SLICES}
use Rattle.slice_rule.specs.declared.slice.Slice.{Slice}
use Rattle.doc_json.specs.Json.{is_form}
use Rattle.search_json.specs.Values.{small_of}

abbrev pub slice_by : ℕ → ℕ → Slice
slice_by id max = record { id = id; max = max }

-- the number that a member gives
unfoldable pub number_in : List ℕ → Data → Option ℕ
number_in name value = option_and_then small_of (get name value)

unfoldable pub slice_in : Data → Option Slice
slice_in value =
    if is_form (codes "id" ∷ codes "max" ∷ []) value
    then option_and_then (λ id. option_map (slice_by id) (number_in (codes "max") value)) (number_in (codes "id") value)
    else None

abbrev pub slice_at : Option Data → Option (Option Slice)
slice_at None = Some None
slice_at (Some value) = option_map Some (slice_in value)

-- the slice that a body names, if it names one
unfoldable pub slice_of : Data → Option (Option Slice)
slice_of value = slice_at (get (codes "slice") value)

-- there are 2 to 1,024 slices, numbered from 0
abbrev pub breaks_slice : Option Slice → Bool
breaks_slice None = false
breaks_slice (Some slice) = nat_lt slice.max LEAST_SLICES || (nat_lt MOST_SLICES slice.max || nat_le slice.max slice.id)
