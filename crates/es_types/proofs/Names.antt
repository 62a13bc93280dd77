-- What follows where the names of fields rise, and what a search by halves finds among them.
use Rattle.std.proofs.Common.{◌≡◌, ◌≢◌, ℕ, nat_le, Bool, true, false, ◌&&◌, List, [], ◌∷◌, length, get_or, Option, Some, None, Result, Ok, Err, Ordering, Less, Equal, Greater, suc, zero, refl, sym, ◌∙◌, subst, ◌<◌, ◌≤◌, inl, inr, arith}
use Rattle.std.specs.Cmp.Lexicographic.{slice_cmp}
use Rattle.std.specs.List.{All, position, position_or_len}
use Rattle.std.specs.Str.{bytes_eq}
use Rattle.std.specs.List.Sorted.{IsSortedBy, IsBinarySearchResult, IsSearchInRange}
use Rattle.std.specs.Ordering.{nat_cmp, is_lt}
use Rattle.std.specs.Result.{result_ok}
use Rattle.std.proofs.lemmas.Bool.{cases_lt}
use Rattle.std.proofs.lemmas.Bool.Decides.{nat_tests}
use Rattle.std.proofs.lemmas.Cmp.{nat_list_cmp_total, tied_itself}
use Rattle.std.proofs.lemmas.List.Elements.{All-nil, All-cons, All-weaker}
use Rattle.std.proofs.lemmas.List.Quantifiers.{position-Some}
use Rattle.std.proofs.lemmas.List.Sorted.{searchable_from_sorted}
use Rattle.std.proofs.lemmas.List.Sums.{fails_before_first, position_or_len_is}
use Rattle.std.proofs.lemmas.Map.Lookups.{exact_bytes}
use Rattle.std.proofs.lemmas.Slice.Eq.{bytes_eq-Decides}
use native.Mathlib.Numerals.{unary_clauses}
use Rattle.es_types.specs.Fields.{is_mapping, names_rise}
use Rattle.es_types.specs.Fit.{IsPlaceOf}
use Rattle.es_types.specs.declared.mapping.Field.{Field}

-- the order of names
abbrev pub by_bytes : List ℕ → List ℕ → Ordering
by_bytes = slice_cmp nat_cmp

less_from_is_lt : (order : Ordering) → is_lt order ≡ true → order ≡ Less
less_from_is_lt Less is = refl
less_from_is_lt Equal is = cc
less_from_is_lt Greater is = cc

both_from_and : (a b : Bool) → (a && b) ≡ true → (a ≡ true) × (b ≡ true)
both_from_and true b is = (refl, is)
both_from_and false b is = cc

first_below : (field next : Field) (fields : List Field) → names_rise (field ∷ next ∷ fields) ≡ true → by_bytes field.name next.name ≡ Less
first_below field next fields rise = less_from_is_lt _ (both_from_and _ _ rise).0

pub rest_rises : (field : Field) (fields : List Field) → names_rise (field ∷ fields) ≡ true → names_rise fields ≡ true
rest_rises field [] rise = refl
rest_rises field (next ∷ fields) rise = (both_from_and (is_lt (by_bytes field.name next.name)) _ rise).1

-- a name is below all those after it
pub below_rest : (field : Field) (fields : List Field) → names_rise (field ∷ fields) ≡ true → All (λ later. by_bytes field.name later.name ≡ Less) fields
below_rest field [] rise = All-nil _
below_rest field (next ∷ fields) rise =
    let first = first_below field next fields rise in
    All-cons (λ later. by_bytes field.name later.name ≡ Less) next fields first
    (All-weaker (λ later. by_bytes next.name later.name ≡ Less) (λ later. by_bytes field.name later.name ≡ Less)
    (λ later less. nat_list_cmp_total.trans field.name next.name later.name first less) fields
    (below_rest next fields (rest_rises field (next ∷ fields) rise)))

pub less_differs : (a b : List ℕ) → by_bytes a b ≡ Less → a ≢ b
less_differs a b less same =
    let tied : by_bytes a a ≡ Equal = tied_itself nat_list_cmp_total a in
    let less_here : by_bytes a a ≡ Less = subst (λ (c : List ℕ). by_bytes a c ≡ Less) (sym same) less in
    cc

-- each field's name is not below the one before it
rises_sorted : (fields : List Field) → names_rise fields ≡ true → IsSortedBy (λ a b. is_lt (by_bytes a.name b.name)) fields
rises_sorted [] rise k d low high = absurd (omega arith)
rises_sorted (field ∷ []) rise k d low high = absurd (omega arith)
rises_sorted (field ∷ next ∷ fields) rise zero d low high =
    rw (nat_list_cmp_total.antisymm next.name field.name, first_below field next fields rise)
rises_sorted (field ∷ next ∷ fields) rise (suc k) d low high =
    let sorted = rises_sorted (next ∷ fields) (rest_rises field (next ∷ fields) rise) k d (omega arith) (omega arith) in
    simp unary_clauses (simp unary_clauses at sorted)

-- a search by halves finds the field of a name
pub place_searched : (name : List ℕ) (fields : List Field) (found : Result ℕ ℕ) → names_rise fields ≡ true → IsSearchInRange found (length fields) → IsBinarySearchResult (λ field. by_bytes field.name name) fields found → IsPlaceOf name fields (result_ok found)
place_searched name fields (Ok place) rise in_range found = (in_range, λ d. exact_bytes _ name (found d))
place_searched name fields (Err gap) rise in_range found =
    let parted = found (searchable_from_sorted nat_list_cmp_total (λ field. field.name) fields name (rises_sorted fields rise)) in
    λ k d in_range same.
    let tied : by_bytes (get_or fields k d).name name ≡ Equal = rw same (tied_itself nat_list_cmp_total name) in
    elim (cases_lt k gap) [
      | inl before ↦ (let less : by_bytes (get_or fields k d).name name ≡ Less = parted.0 k d (omega arith) before in cc)
      | inr after ↦ (let greater : by_bytes (get_or fields k d).name name ≡ Greater = parted.1 k d after in_range in cc)
    ]

pub bytes_eq_false : (a b : List ℕ) (test : Bool) → bytes_eq a b ≡ test → a ≢ b → test ≡ false
bytes_eq_false a b true is differs = absurd (differs ((bytes_eq-Decides a b).0 is))
bytes_eq_false a b false is differs = refl

-- a field is below each one that stands after it
below_later : (fields : List Field) (k at : ℕ) (d : Field) → names_rise fields ≡ true → k < at → at < length fields → by_bytes (get_or fields k d).name (get_or fields at d).name ≡ Less
below_later [] k at d rise before in_range = absurd (omega arith)
below_later (field ∷ fields) k zero d rise before in_range = absurd (omega arith)
below_later (field ∷ fields) zero (suc at) d rise before in_range = below_rest field fields rise at d (omega arith)
below_later (field ∷ fields) (suc k) (suc at) d rise before in_range = below_later fields k at d (rest_rises field fields rise) (omega arith) (omega arith)

position_found : (test : Field → Bool) (fields : List Field) (at : ℕ) → position_or_len test fields ≡ at → at < length fields → Some at ≡ position test fields
position_found test fields at is in_range = grind (arith, nat_tests)

position_missing : (test : Field → Bool) (fields : List Field) → position_or_len test fields ≡ length fields → None ≡ position test fields
position_missing test fields is = grind (arith, nat_tests)

-- where names rise, a field of a name is the first of it
pub position_placed : (name : List ℕ) (fields : List Field) (place : Option ℕ) → names_rise fields ≡ true → IsPlaceOf name fields place → place ≡ position (λ field. bytes_eq field.name name) fields
position_placed name [] None rise none = refl
position_placed name [] (Some at) rise found = absurd (omega (arith, found.0))
position_placed name (field ∷ fields) None rise none =
    position_missing (λ field. bytes_eq field.name name) (field ∷ fields)
    (position_or_len_is (λ field. bytes_eq field.name name) (field ∷ fields) (length (field ∷ fields)) field (omega arith)
    (λ k in_range. bytes_eq_false _ name _ refl (none k field in_range)) (λ in_range. absurd (omega arith)))
position_placed name (field ∷ fields) (Some at) rise found =
    position_found (λ field. bytes_eq field.name name) (field ∷ fields) at
    (position_or_len_is (λ field. bytes_eq field.name name) (field ∷ fields) at field (omega (arith, found.0))
    (λ k before. bytes_eq_false _ name _ refl (λ same. less_differs _ _ (below_later (field ∷ fields) k at field rise before found.0) (same ∙ sym (found.1 field))))
    (λ in_range. (bytes_eq-Decides _ name).1 (found.1 field))) found.0

position_past : (test : Field → Bool) (fields : List Field) → None ≡ position test fields → length fields ≤ position_or_len test fields
position_past test fields is = grind (arith, nat_tests)

no_some : (at : ℕ) → Some at ≡ None → ⊥
no_some at is = cc

-- the first field of a name is one of it
pub placed_from_position : (name : List ℕ) (fields : List Field) (place : Option ℕ) → place ≡ position (λ field. bytes_eq field.name name) fields → IsPlaceOf name fields place
placed_from_position name fields None is = λ k d in_range same.
    let past = position_past (λ field. bytes_eq field.name name) fields is in
    let fails = fails_before_first (λ field. bytes_eq field.name name) fields k d (omega arith) in
    let passes = (bytes_eq-Decides (get_or fields k d).name name).1 same in
    cc
placed_from_position name [] (Some at) is = absurd (no_some at is)
placed_from_position name (field ∷ fields) (Some at) is =
    let facts = λ (d : Field). position-Some (λ field. bytes_eq field.name name) (field ∷ fields) at d (sym is) in
    ((facts field).0, λ d. (bytes_eq-Decides (get_or (field ∷ fields) at d).name name).0 (facts d).1)

pub mapping_rises : (fields : List Field) → is_mapping fields ≡ true → names_rise fields ≡ true
mapping_rises fields is = (both_from_and (nat_le (length fields) 1000) (names_rise fields) is).1

-- a search by halves finds the first field of a name
pub first_searched : (name : List ℕ) (fields : List Field) (found : Result ℕ ℕ) → is_mapping fields ≡ true → IsSearchInRange found (length fields) → IsBinarySearchResult (λ field. by_bytes field.name name) fields found → result_ok found ≡ position (λ field. bytes_eq field.name name) fields
first_searched name fields found is in_range searched =
    let rise = mapping_rises fields is in
    position_placed name fields (result_ok found) rise (place_searched name fields found rise in_range searched)
