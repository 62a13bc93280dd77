-- The values that a row has, by the names of the fields.
use Rattle.std.specs.Prelude.{◌≡◌, ◌⊎◌, IsTrue, Bool, true, false, ℕ, bytes_eq, if◌then◌else◌, List, [], ◌∷◌, Option, Some, None}
use Rattle.es_types.specs.declared.mapping.Field.{Field}
use Rattle.es_types.specs.declared.mapping.FieldKind.{FieldKind}
use Rattle.es_types.specs.declared.mapping.FieldKind.TheVariants as kind
use Rattle.es_types.specs.declared.row.Value.{Value}
use Rattle.es_types.specs.declared.row.Value.TheVariants.{Key, Long, Missing}

-- whether a value is of that kind
abbrev pub is_kind : FieldKind → Value → Bool
is_kind kind.Key (Key text) = true
is_kind kind.Key (Long number) = false
is_kind kind.Key Missing = false
is_kind kind.Long (Key text) = false
is_kind kind.Long (Long number) = true
is_kind kind.Long Missing = false

-- a value of a field of that kind, or that there is none
abbrev pub IsOfKind : FieldKind → Value → Type 0
IsOfKind kind value = (value ≡ Missing) ⊎ IsTrue (is_kind kind value)

-- one value for each field of the mapping, in its order: of the field's kind, or missing
abbrev pub AreValuesOf : List Field → List Value → Type 0
AreValuesOf [] [] = Unit {0}
AreValuesOf [] (value ∷ values) = ⊥
AreValuesOf (field ∷ fields) [] = ⊥
AreValuesOf (field ∷ fields) (value ∷ values) = IsOfKind field.kind value × AreValuesOf fields values

-- the kind of a field, where it is mapped
abbrev pub kind_in : List Field → List ℕ → Option FieldKind
kind_in [] name = None
kind_in (field ∷ fields) name = if bytes_eq field.name name then Some field.kind else kind_in fields name

-- a value of a field of that kind, if it is one
abbrev pub of_kind : FieldKind → Value → List Value
of_kind kind.Key (Key text) = Key text ∷ []
of_kind kind.Key (Long number) = []
of_kind kind.Key Missing = []
of_kind kind.Long (Key text) = []
of_kind kind.Long (Long number) = Long number ∷ []
of_kind kind.Long Missing = []

-- The values that a row of that mapping has of a field: none where the field isn't mapped. Bounds, which are of rows, read them
-- by the field's place.
abbrev pub values_in : List Field → List Value → List ℕ → List Value
values_in [] values name = []
values_in (field ∷ fields) [] name = []
values_in (field ∷ fields) (value ∷ values) name =
    if bytes_eq field.name name then of_kind field.kind value else values_in fields values name
