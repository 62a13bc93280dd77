-- The key of a row at a place, and what a hit shows of it.
use Rattle.std.specs.Prelude.{Bool, true, false, not, ℕ, ◌&&◌, pos, List, [], ◌∷◌, ◌++◌, length, map}
use Rattle.std.specs.List.{list_any}
use Rattle.es_types.specs.declared.mapping.Field.{Field}
use Rattle.es_types.specs.declared.row.Value.{Value}
use Rattle.es_types.specs.declared.row.Value.TheVariants.{Long, Missing}
use Rattle.es_types.specs.Values.{values_in}
use Rattle.es_sort.specs.declared.sort.Keys.{Keys}
use Rattle.es_sort.specs.declared.sort.SortBy.{SortBy}
use Rattle.es_sort.specs.declared.sort.SortBy.TheVariants as by
use Rattle.es_sort.specs.declared.sort.SortKey.{SortKey}
use Rattle.es_sort.specs.declared.sort.SortSpec.{SortSpec}

abbrev pub is_place : SortBy → Bool
is_place (by.Field name) = false
is_place by.Place = true

-- whether a listed key is the place
abbrev pub lists_place : List SortKey → Bool
lists_place keys = list_any (λ key. is_place key.by) keys

-- the place, rising
abbrev pub place_key : SortKey
place_key = record { by = by.Place; down = false; missing_first = false }

-- keys with the place after them, or without it
abbrev pub with_place : Bool → List SortKey → List SortKey
with_place true keys = keys ++ place_key ∷ []
with_place false keys = keys

-- the keys by which rows are ordered: those of the sort, and the place where it is none of them
abbrev pub all_keys : SortSpec → List SortKey
all_keys sort = with_place (not (lists_place sort.keys)) sort.keys

-- the keys that a hit shows
abbrev pub shown_keys : SortSpec → List SortKey
shown_keys sort = with_place (sort.show_place && not (lists_place sort.keys)) sort.keys

-- of the values that a row has of a field, the one that it is ordered by
abbrev pub sort_value : List Value → Value
sort_value [] = Missing
sort_value (value ∷ values) = value

-- the value of a row for a key
abbrev pub value_by : List Field → List Value → ℕ → SortBy → Value
value_by mapping values place (by.Field name) = sort_value (values_in mapping values name)
value_by mapping values place by.Place = Long (pos place)

abbrev pub values_by : List Field → List Value → ℕ → List SortKey → List Value
values_by mapping values place keys = map (λ key. value_by mapping values place key.by) keys

-- the key of a row with these values at that place
abbrev pub full_key : List Field → SortSpec → List Value → ℕ → Keys
full_key mapping sort values place = record { values = values_by mapping values place (all_keys sort) }

-- what a hit shows of it
abbrev pub shown_key : List Field → SortSpec → List Value → ℕ → List Value
shown_key mapping sort values place = values_by mapping values place (shown_keys sort)

-- how many values it shows
abbrev pub shown : SortSpec → ℕ
shown sort = length (shown_keys sort)
