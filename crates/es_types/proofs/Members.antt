-- What one more member, in front of the others, gives the fields.
use Rattle.std.proofs.Common.{◌≡◌, ◌≢◌, ℕ, ◌<◌, true, List, [], ◌∷◌, length, get_or, set, map, replicate, drop, Bor, ◌+◌, ◌-◌, ◌≤◌, Less, suc, zero, refl, sym, ◌∙◌, arith}
use Rattle.std.specs.List.{All, HoldsAt}
use Rattle.std.proofs.lemmas.List.{drop_more}
use Rattle.std.proofs.lemmas.List.Elements.{All-weaker}
use Rattle.std.proofs.lemmas.Slice.Eq.{bytes_eq-Decides}
use Rattle.es_types.specs.Fields.{names_rise, value_named}
use Rattle.es_types.specs.Fit.{values_named}
use Rattle.es_types.specs.declared.mapping.Field.{Field}
use Rattle.es_types.specs.declared.doc.DocValue.{DocValue}
use Rattle.es_types.specs.declared.doc.DocValue.TheVariants.{Null}
use Rattle.es_types.specs.declared.doc.Member.{Member}
use Rattle.es_types.proofs.Names.{below_rest, by_bytes, bytes_eq_false, less_differs, rest_rises}

-- a member of another name gives a field nothing, and one of its name its value
value_passed : (name : List ℕ) (member : Member) (members : List Member) → member.name ≢ name → value_named name (member ∷ members) ≡ value_named name members
value_passed name member members differs = rw (bytes_eq_false member.name name _ refl differs)

value_taken : (name : List ℕ) (member : Member) (members : List Member) → member.name ≡ name → value_named name (member ∷ members) ≡ member.value
value_taken name member members same = rw ((bytes_eq-Decides member.name name).1 same)

-- one more member in front, of no field's name
pub values_kept : (fields : List Field) (member : Member) (members : List Member) → All (λ field. field.name ≢ member.name) fields → values_named fields members ≡ values_named fields (member ∷ members)
values_kept [] member members none = refl
values_kept (field ∷ fields) member members none =
    let here = value_passed field.name member members (λ same. none 0 field (omega arith) (sym same)) in
    let later = values_kept fields member members (λ k d in_range. none (suc k) d (omega arith)) in
    cc

-- one more member in front, of the name of the field at that place
pub values_placed : (fields : List Field) (place : ℕ) (member : Member) (members : List Member) → names_rise fields ≡ true → place < length fields → HoldsAt (λ field. field.name ≡ member.name) fields place → set (values_named fields members) place member.value ≡ values_named fields (member ∷ members)
values_placed [] place member members rise in_range named = absurd (omega arith)
values_placed (field ∷ fields) zero member members rise in_range named =
    let here = value_taken field.name member members (sym (named field)) in
    let others : All (λ later. later.name ≢ member.name) fields = All-weaker (λ later. by_bytes field.name later.name ≡ Less) (λ later. later.name ≢ member.name) (λ later less same. less_differs field.name later.name less (named field ∙ sym same)) fields (below_rest field fields rise) in
    let later = values_kept fields member members others in
    cc
values_placed (field ∷ fields) (suc place) member members rise in_range named =
    let below : by_bytes field.name (get_or fields place field).name ≡ Less = below_rest field fields rise place field (omega arith) in
    let here = value_passed field.name member members (λ same. less_differs field.name _ below (sym same ∙ sym (named field))) in
    let later = values_placed fields place member members (rest_rises field fields rise) (omega arith) named in
    cc

-- no member gives anything
pub values_of_none : (null : Bor DocValue) (fields : List Field) → null.now ≡ Null → map (λ (value : Bor DocValue). value.now) (replicate (length fields) null) ≡ values_named fields []
values_of_none null [] is = refl
values_of_none null (field ∷ fields) is =
    let later = values_of_none null fields is in
    cc

-- the members from one further in front
pub drop_one_less : (members : List Member) (i : ℕ) (member : Member) → 0 < i → i ≤ length members → member ≡ get_or members (i - 1) member → drop (i - 1) members ≡ member ∷ drop i members
drop_one_less members i member some in_range is =
    let one_more : i - 1 + 1 ≡ i = omega arith in
    let dropped = drop_more members (i - 1) member (omega arith) in
    cc
