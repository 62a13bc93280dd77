-- One more row in front of those that a bound is of.
use Rattle.std.proofs.Common.{◌≡◌, ℕ, ◌<◌, ◌≤◌, ◌+◌, ◌-◌, ℤ, List, [], ◌∷◌, ◌++◌, length, get_or, drop, Option, Some, None, MatchOption, Bor, refl, sym, ap, ◌∙◌, append_assoc, arith}
use Rattle.std.proofs.lemmas.List.{drop_more}
use Rattle.std.specs.Int.{int_max, int_min}
use Rattle.es_types.specs.declared.bounds.Bound.{Bound}
use Rattle.es_types.specs.declared.bounds.Bound.TheVariants.{Nothing, Keys, Longs}
use Rattle.es_types.specs.declared.mapping.Field.{Field}
use Rattle.es_types.specs.declared.mapping.FieldKind.{FieldKind}
use Rattle.es_types.specs.declared.row.Row.{Row}
use Rattle.es_types.specs.declared.row.Value.{Value}
use Rattle.es_types.specs.declared.row.Value.TheVariants as value
use Rattle.es_types.specs.declared.text.Text.{Text}
use Rattle.es_query.specs.Limits.{bound_of, bounds_from, first_of, greater, lesser, values_at, widened}

-- the rows from one further in front
pub one_in_front : (rows : List Row) (i : ℕ) (row : Row) → 0 < i → i ≤ length rows → row ≡ get_or rows (i - 1) row → drop (i - 1) rows ≡ row ∷ drop i rows
one_in_front rows i row some in_range is =
    let one_more : i - 1 + 1 ≡ i = omega arith in
    let dropped = drop_more rows (i - 1) row (omega arith) in
    cc

module _ (kind : FieldKind) (place : ℕ) (rows : List Row) (row : Row) (rest : List Row) (is : rows ≡ row ∷ rest) where
  -- a row without a value there
  pub bound_kept : first_of kind (drop place row.values) ≡ [] → bound_of (values_at kind place rows) ≡ bound_of (values_at kind place rest)
  bound_kept none = rw is (rw none refl)

  pub bound_widened : (value : Value) → first_of kind (drop place row.values) ≡ value ∷ [] → bound_of (values_at kind place rows) ≡ widened value (bound_of (values_at kind place rest))
  bound_widened value one = rw is (rw one refl)

-- what is found of some rows, as their bound
abbrev pub AreKeys : Option (Bor Text × Bor Text) → Bound → Type 0
AreKeys found bound = MatchOption found (bound ≡ Nothing) (λ it. bound ≡ Keys it.0.now it.1.now)

abbrev pub AreLongs : Option (ℤ × ℤ) → Bound → Type 0
AreLongs found bound = MatchOption found (bound ≡ Nothing) (λ it. bound ≡ Longs it.0 it.1)

pub keys_widened : (found : Option (Bor Text × Bor Text)) (text : Bor Text) (next : Bor Text × Bor Text) (bound : Bound) → AreKeys found bound → MatchOption found ((next.0.now ≡ text.now) × (next.1.now ≡ text.now)) (λ it. (next.0.now ≡ lesser text.now it.0.now) × (next.1.now ≡ greater text.now it.1.now)) → widened (value.Key text.now) bound ≡ Keys next.0.now next.1.now
keys_widened None text next bound is given = rw (is, given.0, given.1) refl
keys_widened (Some it) text next bound is given = rw (is, given.0, given.1) refl

pub longs_widened : (found : Option (ℤ × ℤ)) (number : ℤ) (next : ℤ × ℤ) (bound : Bound) → AreLongs found bound → MatchOption found ((next.0 ≡ number) × (next.1 ≡ number)) (λ it. (next.0 ≡ int_min number it.0) × (next.1 ≡ int_max number it.1)) → widened (value.Long number) bound ≡ Longs next.0 next.1
longs_widened None number next bound is given = rw (is, given.0, given.1) refl
longs_widened (Some it) number next bound is given = rw (is, given.0, given.1) refl

-- the bound of one more field after those so far
pub field_more : (fields : List Field) (rows : List Row) (so_far : List Bound) (at : ℕ) (field : Field) (next : Bound) → at < length fields → field ≡ get_or fields at field → next ≡ bound_of (values_at field.kind at rows) → so_far ++ bounds_from at (drop at fields) rows ≡ (so_far ++ next ∷ []) ++ bounds_from (at + 1) (drop (at + 1) fields) rows
field_more fields rows so_far at field next in_range read is =
    let dropped : drop at fields ≡ field ∷ drop (at + 1) fields = drop_more fields at field in_range ∙ ap (λ field. field ∷ drop (at + 1) fields) (sym read) in
    rw (dropped, ← is) (sym (append_assoc so_far (next ∷ []) _))
