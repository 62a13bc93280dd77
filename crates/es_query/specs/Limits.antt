-- Between which values those of a list of rows lie.
use Rattle.std.specs.Prelude.{ℕ, ◌+◌, if◌then◌else◌, List, [], ◌∷◌, length, drop, flat_map}
use Rattle.std.specs.Cmp.Lexicographic.{slice_cmp}
use Rattle.std.specs.Int.{int_max, int_min}
use Rattle.std.specs.Ordering.{nat_cmp, is_lt}
use Rattle.es_types.specs.declared.bounds.Bound.{Bound}
use Rattle.es_types.specs.declared.bounds.Bound.TheVariants.{Nothing, Keys, Longs}
use Rattle.es_types.specs.declared.bounds.Bounds.{Bounds}
use Rattle.es_types.specs.declared.mapping.Field.{Field}
use Rattle.es_types.specs.declared.mapping.FieldKind.{FieldKind}
use Rattle.es_types.specs.declared.row.Row.{Row}
use Rattle.es_types.specs.declared.row.Value.{Value}
use Rattle.es_types.specs.declared.row.Value.TheVariants.{Key, Long, Missing}
use Rattle.es_types.specs.Values.{of_kind}

-- the lesser and the greater one of two texts, by their bytes
abbrev pub lesser : List ℕ → List ℕ → List ℕ
lesser a b = if is_lt (slice_cmp nat_cmp b a) then b else a

abbrev pub greater : List ℕ → List ℕ → List ℕ
greater a b = if is_lt (slice_cmp nat_cmp a b) then b else a

-- the bound of one more value
abbrev pub widened : Value → Bound → Bound
widened (Key text) Nothing = Keys text text
widened (Key text) (Keys least greatest) = Keys (lesser text least) (greater text greatest)
widened (Key text) (Longs least greatest) = Longs least greatest
widened (Long number) Nothing = Longs number number
widened (Long number) (Keys least greatest) = Keys least greatest
widened (Long number) (Longs least greatest) = Longs (int_min number least) (int_max number greatest)
widened Missing bound = bound

-- the least and the greatest of some values of one kind
abbrev pub bound_of : List Value → Bound
bound_of [] = Nothing
bound_of (value ∷ values) = widened value (bound_of values)

-- the first of these values, if it is of that kind
abbrev pub first_of : FieldKind → List Value → List Value
first_of kind [] = []
first_of kind (value ∷ values) = of_kind kind value

-- the values of that kind that rows have at a place
abbrev pub values_at : FieldKind → ℕ → List Row → List Value
values_at kind place rows = flat_map (λ row. first_of kind (drop place row.values)) rows

-- the bounds of the fields from a place on
abbrev pub bounds_from : ℕ → List Field → List Row → List Bound
bounds_from place [] rows = []
bounds_from place (field ∷ fields) rows = bound_of (values_at field.kind place rows) ∷ bounds_from (place + 1) fields rows

-- the bounds of rows of that mapping
abbrev pub bounds_of : List Field → List Row → Bounds
bounds_of mapping rows = record { rows = length rows; fields = bounds_from 0 mapping rows }
