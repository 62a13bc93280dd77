-- The values of rows lie within the bounds of the rows.
use Rattle.std.proofs.Common.{◌≡◌, ℕ, ◌+◌, Bool, true, false, cond, int_lt, ℤ, List, [], ◌∷◌, ◌++◌, get_or, drop, Ordering, Less, Equal, Greater, suc, zero, refl, ap, subst, ◌∙◌, add-one}
use Rattle.std.specs.Cmp.Lexicographic.{slice_cmp}
use Rattle.std.specs.Int.{int_max, int_min}
use Rattle.std.specs.List.{All, flat_map}
use Rattle.std.specs.Ordering.{int_cmp, is_lt, nat_cmp}
use Rattle.std.specs.Str.{bytes_eq}
use Rattle.std.proofs.lemmas.Cmp.{int_cmp_total, nat_list_cmp_total}
use Rattle.std.proofs.lemmas.List.Elements.{All-nil, All-cons}
use Rattle.es_types.specs.declared.bounds.Bound.{Bound}
use Rattle.es_types.specs.declared.bounds.Bound.TheVariants.{Nothing, Keys, Longs}
use Rattle.es_types.specs.declared.mapping.Field.{Field}
use Rattle.es_types.specs.declared.mapping.FieldKind.{FieldKind}
use Rattle.es_types.specs.declared.mapping.FieldKind.TheVariants as kind
use Rattle.es_types.specs.declared.row.Row.{Row}
use Rattle.es_types.specs.declared.row.Value.{Value}
use Rattle.es_types.specs.declared.row.Value.TheVariants.{Key, Long, Missing}
use Rattle.es_query.specs.Excluded.{bound_in}
use Rattle.es_query.specs.Limits.{bound_of, bounds_from, bounds_of, first_of, values_at, widened}
use Rattle.es_types.specs.Values.{values_in}
use Rattle.es_query.proofs.Orders.{UpTo, greater_left, greater_right, lesser_left, lesser_right, up_to_itself, up_to_trans}

abbrev pub by_bytes : List ℕ → List ℕ → Ordering
by_bytes = slice_cmp nat_cmp

-- a value from the least to the greatest
abbrev pub IsWithin : Value → Bound → Type 0
IsWithin (Key text) Nothing = ⊥
IsWithin (Key text) (Keys least greatest) = UpTo by_bytes least text × UpTo by_bytes text greatest
IsWithin (Key text) (Longs least greatest) = ⊥
IsWithin (Long number) Nothing = ⊥
IsWithin (Long number) (Keys least greatest) = ⊥
IsWithin (Long number) (Longs least greatest) = UpTo int_cmp least number × UpTo int_cmp number greatest
IsWithin Missing bound = ⊥

abbrev pub AreWithin : List Value → Bound → Type 0
AreWithin [] bound = Unit {0}
AreWithin (value ∷ values) bound = IsWithin value bound × AreWithin values bound

-- values, and bounds, of one kind
abbrev IsKind : FieldKind → Value → Type 0
IsKind kind.Key (Key text) = Unit {0}
IsKind kind.Key (Long number) = ⊥
IsKind kind.Key Missing = ⊥
IsKind kind.Long (Key text) = ⊥
IsKind kind.Long (Long number) = Unit {0}
IsKind kind.Long Missing = ⊥

abbrev AreKind : FieldKind → List Value → Type 0
AreKind kind [] = Unit {0}
AreKind kind (value ∷ values) = IsKind kind value × AreKind kind values

abbrev IsBoundOf : FieldKind → Bound → Type 0
IsBoundOf kind Nothing = Unit {0}
IsBoundOf kind.Key (Keys least greatest) = Unit {0}
IsBoundOf kind.Key (Longs least greatest) = ⊥
IsBoundOf kind.Long (Keys least greatest) = ⊥
IsBoundOf kind.Long (Longs least greatest) = Unit {0}

int_lt_is : (a b : ℤ) → int_lt a b ≡ is_lt (int_cmp a b)
int_lt_is a b = tested (int_lt a b) (int_lt b a)
  where
    tested : (below above : Bool) → below ≡ is_lt (cond below Less (cond above Greater Equal))
    tested true above = refl
    tested false true = refl
    tested false false = refl

-- the least and the greatest of two numbers
min_left : (a b : ℤ) → UpTo int_cmp (int_min a b) a
min_left a b = rw (int_lt_is b a) (lesser_left int_cmp int_cmp_total a b)

min_right : (a b : ℤ) → UpTo int_cmp (int_min a b) b
min_right a b = rw (int_lt_is b a) (lesser_right int_cmp int_cmp_total a b)

max_left : (a b : ℤ) → UpTo int_cmp a (int_max a b)
max_left a b = rw (int_lt_is b a) (greater_right int_cmp int_cmp_total b a)

max_right : (a b : ℤ) → UpTo int_cmp b (int_max a b)
max_right a b = rw (int_lt_is b a) (greater_left int_cmp int_cmp_total b a)

-- a bound of one more value is of the same kind, has that value within it, and those before
bound_widens : (kind : FieldKind) (value : Value) (bound : Bound) → IsKind kind value → IsBoundOf kind bound → IsBoundOf kind (widened value bound)
bound_widens kind.Key (Key text) Nothing of it = tt
bound_widens kind.Key (Key text) (Keys least greatest) of it = tt
bound_widens kind.Key (Key text) (Longs least greatest) of it = absurd it
bound_widens kind.Key (Long number) bound of it = absurd of
bound_widens kind.Key Missing bound of it = absurd of
bound_widens kind.Long (Key text) bound of it = absurd of
bound_widens kind.Long (Long number) Nothing of it = tt
bound_widens kind.Long (Long number) (Keys least greatest) of it = absurd it
bound_widens kind.Long (Long number) (Longs least greatest) of it = tt
bound_widens kind.Long Missing bound of it = absurd of

value_within : (kind : FieldKind) (value : Value) (bound : Bound) → IsKind kind value → IsBoundOf kind bound → IsWithin value (widened value bound)
value_within kind.Key (Key text) Nothing of it = (up_to_itself by_bytes nat_list_cmp_total text, up_to_itself by_bytes nat_list_cmp_total text)
value_within kind.Key (Key text) (Keys least greatest) of it = (lesser_left by_bytes nat_list_cmp_total text least, greater_left by_bytes nat_list_cmp_total text greatest)
value_within kind.Key (Key text) (Longs least greatest) of it = absurd it
value_within kind.Key (Long number) bound of it = absurd of
value_within kind.Key Missing bound of it = absurd of
value_within kind.Long (Key text) bound of it = absurd of
value_within kind.Long (Long number) Nothing of it = (up_to_itself int_cmp int_cmp_total number, up_to_itself int_cmp int_cmp_total number)
value_within kind.Long (Long number) (Keys least greatest) of it = absurd it
value_within kind.Long (Long number) (Longs least greatest) of it = (min_left number least, max_left number greatest)
value_within kind.Long Missing bound of it = absurd of

stays_within : (kind : FieldKind) (value : Value) (bound : Bound) (other : Value) → IsKind kind value → IsBoundOf kind bound → IsWithin other bound → IsWithin other (widened value bound)
stays_within kind value bound Missing of it within = absurd within
stays_within kind value Nothing (Key text) of it within = absurd within
stays_within kind value Nothing (Long number) of it within = absurd within
stays_within kind value (Keys least greatest) (Long number) of it within = absurd within
stays_within kind value (Longs least greatest) (Key text) of it within = absurd within
stays_within kind.Key (Key text) (Keys least greatest) (Key other) of it within = (
  up_to_trans by_bytes nat_list_cmp_total _ least other (lesser_right by_bytes nat_list_cmp_total text least) within.0,
  up_to_trans by_bytes nat_list_cmp_total other greatest _ within.1 (greater_right by_bytes nat_list_cmp_total text greatest),
)
stays_within kind.Key (Long number) (Keys least greatest) (Key other) of it within = absurd of
stays_within kind.Key Missing (Keys least greatest) (Key other) of it within = absurd of
stays_within kind.Long value (Keys least greatest) (Key other) of it within = absurd it
stays_within kind.Key value (Longs least greatest) (Long other) of it within = absurd it
stays_within kind.Long (Long number) (Longs least greatest) (Long other) of it within = (
  up_to_trans int_cmp int_cmp_total _ least other (min_right number least) within.0,
  up_to_trans int_cmp int_cmp_total other greatest _ within.1 (max_right number greatest),
)
stays_within kind.Long (Key text) (Longs least greatest) (Long other) of it within = absurd of
stays_within kind.Long Missing (Longs least greatest) (Long other) of it within = absurd of

module _ (kind : FieldKind) where
  all_stay : (value : Value) (bound : Bound) (others : List Value) → IsKind kind value → IsBoundOf kind bound → AreWithin others bound → AreWithin others (widened value bound)
  all_stay value bound [] of it within = tt
  all_stay value bound (other ∷ others) of it within = (stays_within kind value bound other of it within.0, all_stay value bound others of it within.1)

  is_bound : (values : List Value) → AreKind kind values → IsBoundOf kind (bound_of values)
  is_bound [] are = tt
  is_bound (value ∷ values) are = bound_widens kind value (bound_of values) are.0 (is_bound values are.1)

  -- values of one kind lie within their bound
  within_bound : (values : List Value) → AreKind kind values → AreWithin values (bound_of values)
  within_bound [] are = tt
  within_bound (value ∷ values) are = (
    value_within kind value (bound_of values) are.0 (is_bound values are.1),
    all_stay value (bound_of values) values are.0 (is_bound values are.1) (within_bound values are.1),
  )

  kind_append : (values more : List Value) → AreKind kind values → AreKind kind more → AreKind kind (values ++ more)
  kind_append [] more are too = too
  kind_append (value ∷ values) more are too = (are.0, kind_append values more are.1 too)

first_is : (kind : FieldKind) (values : List Value) → AreKind kind (first_of kind values)
first_is kind [] = tt
first_is kind.Key (Key text ∷ values) = (tt, tt)
first_is kind.Key (Long number ∷ values) = tt
first_is kind.Key (Missing ∷ values) = tt
first_is kind.Long (Key text ∷ values) = tt
first_is kind.Long (Long number ∷ values) = (tt, tt)
first_is kind.Long (Missing ∷ values) = tt

values_are : (kind : FieldKind) (place : ℕ) (rows : List Row) → AreKind kind (values_at kind place rows)
values_are kind place [] = tt
values_are kind place (row ∷ rows) = kind_append kind (first_of kind (drop place row.values)) (values_at kind place rows) (first_is kind (drop place row.values)) (values_are kind place rows)

within_append : (values more : List Value) (bound : Bound) → AreWithin (values ++ more) bound → AreWithin values bound × AreWithin more bound
within_append [] more bound within = (tt, within)
within_append (value ∷ values) more bound within =
    let rest = within_append values more bound within.1 in
    ((within.0, rest.0), rest.1)

each_within : (f : Row → List Value) (rows : List Row) (bound : Bound) → AreWithin (flat_map f rows) bound → All (λ row. AreWithin (f row) bound) rows
each_within f [] bound within = All-nil _
each_within f (row ∷ rows) bound within =
    let parts = within_append (f row) (flat_map f rows) bound within in
    All-cons (λ row. AreWithin (f row) bound) row rows parts.0 (each_within f rows bound parts.1)

-- the values of each row at a place
place_within : (kind : FieldKind) (place : ℕ) (rows : List Row) → All (λ row. AreWithin (first_of kind (drop place row.values)) (bound_of (values_at kind place rows))) rows
place_within kind place rows = each_within (λ row. first_of kind (drop place row.values)) rows (bound_of (values_at kind place rows)) (within_bound kind (values_at kind place rows) (values_are kind place rows))

abbrev but_first : List Value → List Value
but_first [] = []
but_first (value ∷ values) = values

drop_more : (place : ℕ) (values : List Value) → drop (suc place) values ≡ but_first (drop place values)
drop_more zero [] = refl
drop_more zero (value ∷ values) = refl
drop_more (suc place) [] = refl
drop_more (suc place) (value ∷ values) = drop_more place values

module _ (name : List ℕ) where
  field_within : (field : Field) (fields : List Field) (values : List Value) (here later : Bound) (test : Bool) → bytes_eq field.name name ≡ test → AreWithin (first_of field.kind values) here → AreWithin (values_in fields (but_first values) name) later → AreWithin (values_in (field ∷ fields) values name) (cond (bytes_eq field.name name) here later)
  field_within field fields [] here later test is first rest = tt
  field_within field fields (value ∷ values) here later true is first rest = rw is first
  field_within field fields (value ∷ values) here later false is first rest = rw is rest

  fields_within : (fields : List Field) (place : ℕ) (rows : List Row) → All (λ row. AreWithin (values_in fields (drop place row.values) name) (bound_in fields (bounds_from place fields rows) name)) rows
  fields_within [] place rows = λ k row in_range. tt
  fields_within (field ∷ fields) place rows = λ k d in_range.
      let row = get_or rows k d in
      let next : drop (place + 1) row.values ≡ but_first (drop place row.values) = ap (λ n. drop n row.values) (add-one place) ∙ drop_more place row.values in
      let later = subst (λ (values : List Value). AreWithin (values_in fields values name) (bound_in fields (bounds_from (place + 1) fields rows) name)) next (fields_within fields (place + 1) rows k d in_range) in
      field_within field fields (drop place row.values) (bound_of (values_at field.kind place rows)) (bound_in fields (bounds_from (place + 1) fields rows) name) (bytes_eq field.name name) refl (place_within field.kind place rows k d in_range) later

  -- the values that a row has of a field lie within the bound of the field
  pub row_within : (mapping : List Field) (rows : List Row) → All (λ row. AreWithin (values_in mapping row.values name) (bound_in mapping (bounds_of mapping rows).fields name)) rows
  row_within mapping rows = fields_within mapping 0 rows
