-- Where a field stands, and what the members of a document give the fields.
use Rattle.std.specs.Prelude.{◌≡◌, ◌≢◌, ℕ, ◌<◌, List, length, map, Option, MatchOption}
use Rattle.std.specs.List.{All, HoldsAt}
use Rattle.es_types.specs.Fields.{value_named}
use Rattle.es_types.specs.declared.mapping.Field.{Field}
use Rattle.es_types.specs.declared.doc.DocValue.{DocValue}
use Rattle.es_types.specs.declared.doc.Member.{Member}

-- the place of a field of that name, or no field has it
abbrev pub IsPlaceOf : List ℕ → List Field → Option ℕ → Type 0
IsPlaceOf name fields place =
    MatchOption place (All (λ field. field.name ≢ name) fields)
    (λ at. (at < length fields) × HoldsAt (λ field. field.name ≡ name) fields at)

-- for each field the value of the first member of its name
abbrev pub values_named : List Field → List Member → List DocValue
values_named fields members = map (λ field. value_named field.name members) fields
