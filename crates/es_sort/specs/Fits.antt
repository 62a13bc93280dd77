-- Which sorts fit a mapping, and which values a sort can go on after.
use Rattle.std.specs.Prelude.{Bool, true, false, ◌&&◌, is_some, List, [], ◌∷◌, Option, Some, None}
use Rattle.std.specs.List.{list_all}
use Rattle.es_types.specs.declared.mapping.Field.{Field}
use Rattle.es_types.specs.declared.mapping.FieldKind.{FieldKind}
use Rattle.es_types.specs.declared.mapping.FieldKind.TheVariants as kind
use Rattle.es_types.specs.declared.row.Value.{Value}
use Rattle.es_types.specs.declared.row.Value.TheVariants.{Key, Long, Missing}
use Rattle.es_types.specs.Values.{is_kind, kind_in}
use Rattle.es_sort.specs.declared.sort.Keys.{Keys}
use Rattle.es_sort.specs.declared.sort.SortBy.{SortBy}
use Rattle.es_sort.specs.declared.sort.SortBy.TheVariants as by
use Rattle.es_sort.specs.declared.sort.SortKey.{SortKey}
use Rattle.es_sort.specs.declared.sort.SortSpec.{SortSpec}
use Rattle.es_sort.specs.Keys.{shown_keys}

-- a field is mapped
abbrev pub is_mapped : List Field → SortBy → Bool
is_mapped mapping (by.Field name) = is_some (kind_in mapping name)
is_mapped mapping by.Place = true

-- so is each that the sort names
abbrev pub sort_fits : List Field → SortSpec → Bool
sort_fits mapping sort = list_all (λ key. is_mapped mapping key.by) sort.keys

-- a missing value, or one of that kind
abbrev pub is_of_or_missing : Option FieldKind → Value → Bool
is_of_or_missing None value = false
is_of_or_missing (Some kind) Missing = true
is_of_or_missing (Some kind) (Key text) = is_kind kind (Key text)
is_of_or_missing (Some kind) (Long number) = is_kind kind (Long number)

-- whether a value is of a key's kind, as those of rows are; a place is a number, and never missing
abbrev pub takes : List Field → SortBy → Value → Bool
takes mapping (by.Field name) value = is_of_or_missing (kind_in mapping name) value
takes mapping by.Place value = is_kind kind.Long value

-- one value for each key
abbrev pub take_each : List Field → List SortKey → List Value → Bool
take_each mapping [] [] = true
take_each mapping [] (value ∷ values) = false
take_each mapping (key ∷ keys) [] = false
take_each mapping (key ∷ keys) (value ∷ values) = takes mapping key.by value && take_each mapping keys values

-- whether the values are those of a key as a hit shows it
abbrev pub after_fits : List Field → SortSpec → Keys → Bool
after_fits mapping sort after = take_each mapping (shown_keys sort) after.values
