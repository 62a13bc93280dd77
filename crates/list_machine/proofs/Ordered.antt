-- Lists that are put in order, and the enumeration of a view.
use Rattle.std.proofs.Common.{◌≡◌, ◌≢◌, ◌⊎◌, ℕ, zero, suc, ◌+◌, ◌<◌, ◌≤◌, Bool, true, false, cond, eqb, List, [], ◌∷◌, length, get_or, All, AllPairs, Contains, Option, Ordering, Less, Equal, Greater, is_lt, inl, inr, ⊎_elim, refl, sym, ap, ap₂, subst, ◌∙◌, arith, true≢false, eqb-true, subst₂}
use Rattle.std.specs.Cmp.{IsTotalOrder}
use Rattle.std.specs.List.{swap}
use Rattle.std.specs.List.Sorted.{IsPermutation, IsSortedBy}
use Rattle.std.specs.Ordering.{ordering_reverse}
use Rattle.std.proofs.lemmas.Bool.{cases_lt, cond_both, eqb-false}
use Rattle.std.proofs.lemmas.Bool.Decides.{nat_tests}
use Rattle.std.proofs.lemmas.Cmp.{tied_itself}
use Rattle.std.proofs.lemmas.List.Edits.{length-swap, swapped_from_swap}
use Rattle.std.proofs.lemmas.List.Elements.{All-cons, All-contains, All-nil, All-weaker}
use Rattle.std.proofs.lemmas.List.Kept.{AllPairs-cons}
use Rattle.std.proofs.lemmas.List.Sorted.{All-permutation, Contains-permutation, IsPermutation-cons, IsPermutation-keeps, IsPermutation-middle, IsPermutation-refl, IsPermutation-sym, IsPermutation-trans, ranks_by, sorted_far}
use Rattle.es_types.specs.declared.mapping.Field.{Field}
use Rattle.es_types.specs.declared.row.Value.{Value}
use Rattle.es_query.specs.declared.query.Query.{Query}
use Rattle.es_sort.specs.declared.sort.Keys.{Keys}
use Rattle.es_sort.specs.declared.sort.SortSpec.{SortSpec}
use Rattle.es_sort.specs.Keys.{full_key}
use Rattle.es_sort.specs.Orders.{compare}
use Rattle.slice_rule.specs.declared.slice.Slice.{Slice}
use Rattle.list_machine.specs.Sorting.{in_order, put_in}
use Rattle.list_machine.specs.Views.{HasPlaces, Place, View, comes_before, enumeration, found, is_wanted, key_at, place_number, places_from}
use Rattle.list_machine.proofs.PlacesInOrder.{Rising, rising_filter, rising_places}

-- a test by which nothing comes before itself, and what comes before an earlier one comes before a later one
pub record IsStrict {X : Type 0} (before : X → X → Bool) : Type 0 where
  pub irrefl : (x : X) → before x x ≡ false
  pub trans : (x y z : X) → before x y ≡ true → before y z ≡ true → before x z ≡ true

-- each comes before those after it
abbrev Rises : {X : Type 0} → (X → X → Bool) → List X → Type 0
Rises before xs = AllPairs (λ a b. before a b ≡ true) xs

-- one of the two comes before the other
abbrev Either : {X : Type 0} → (X → X → Bool) → X → X → Type 0
Either before a b = (before a b ≡ true) ⊎ (before b a ≡ true)

pub pairs_head : {X : Type 0} (R : X → X → Type 0) (x : X) (xs : List X) → AllPairs R (x ∷ xs) → All (R x) xs
pairs_head R x xs all k d within = all zero (suc k) d (omega arith) (omega arith)

pub pairs_tail : {X : Type 0} (R : X → X → Type 0) (x : X) (xs : List X) → AllPairs R (x ∷ xs) → AllPairs R xs
pairs_tail R x xs all i j d less within = all (suc i) (suc j) d (omega arith) (omega arith)

pub pairs_nil : {X : Type 0} (R : X → X → Type 0) → AllPairs R []
pairs_nil R i j d less within = absurd (omega arith)

-- one more element is among the others
pub put_in-same : {X : Type 0} (before : X → X → Bool) (x : X) (ys : List X) → IsPermutation (x ∷ ys) (put_in before x ys)
put_in-same before x [] = IsPermutation-refl (x ∷ [])
put_in-same before x (y ∷ ys) =
    cond_both (before x y) (x ∷ y ∷ ys) (y ∷ put_in before x ys) (IsPermutation (x ∷ y ∷ ys)) (λ _. IsPermutation-refl (x ∷ y ∷ ys))
    (λ _. IsPermutation-trans (x ∷ y ∷ ys) (y ∷ x ∷ ys) (y ∷ put_in before x ys) (IsPermutation-middle (x ∷ []) y ys)
    (IsPermutation-cons y (x ∷ ys) (put_in before x ys) (put_in-same before x ys)))

-- a list that is put in order has the same elements
pub in_order-same : {X : Type 0} (before : X → X → Bool) (xs : List X) → IsPermutation xs (in_order before xs)
in_order-same before [] = IsPermutation-refl []
in_order-same before (x ∷ xs) =
    IsPermutation-trans (x ∷ xs) (x ∷ in_order before xs) (put_in before x (in_order before xs))
    (IsPermutation-cons x xs (in_order before xs) (in_order-same before xs)) (put_in-same before x (in_order before xs))

-- an element among others that rise, where each of them comes before it or after it
put_in-rises : {X : Type 0} (before : X → X → Bool) → IsStrict before → (x : X) (ys : List X) → All (Either before x) ys → Rises before ys → Rises before (put_in before x ys)
put_in-rises before strict x [] either rises = AllPairs-cons (λ a b. before a b ≡ true) x [] (All-nil (λ b. before x b ≡ true)) rises
put_in-rises before strict x (y ∷ ys) either rises =
    let head = pairs_head (λ a b. before a b ≡ true) y ys rises in
    let tail = pairs_tail (λ a b. before a b ≡ true) y ys rises in
    cond_both (before x y) (x ∷ y ∷ ys) (y ∷ put_in before x ys) (Rises before)
    (λ first. AllPairs-cons (λ a b. before a b ≡ true) x (y ∷ ys)
    (All-cons (λ b. before x b ≡ true) y ys first (All-weaker (λ b. before y b ≡ true) (λ b. before x b ≡ true) (λ b later. strict.trans x y b first later) ys head)) rises)
    (λ behind. let later : before y x ≡ true = ⊎_elim (λ it. absurd (true≢false (sym it ∙ behind))) (λ it. it) (either zero y (omega arith)) in
    AllPairs-cons (λ a b. before a b ≡ true) y (put_in before x ys)
    (All-permutation (λ b. before y b ≡ true) (x ∷ ys) (put_in before x ys) (put_in-same before x ys) (All-cons (λ b. before y b ≡ true) x ys later head))
    (put_in-rises before strict x ys (λ k d within. either (suc k) d (omega arith)) tail))

-- a list that is put in order rises, where of any two of its elements one comes before the other
in_order-rises : {X : Type 0} (before : X → X → Bool) → IsStrict before → (xs : List X) → AllPairs (Either before) xs → Rises before (in_order before xs)
in_order-rises before strict [] either = pairs_nil (λ a b. before a b ≡ true)
in_order-rises before strict (x ∷ xs) either =
    put_in-rises before strict x (in_order before xs)
    (All-permutation (Either before x) xs (in_order before xs) (in_order-same before xs) (pairs_head (Either before) x xs either))
    (in_order-rises before strict xs (pairs_tail (Either before) x xs either))

-- an element of a list is its first one or after it
pub contains_cases : {X : Type 0} (x z : X) (xs : List X) → Contains (x ∷ xs) z → (x ≡ z) ⊎ Contains xs z
contains_cases x z xs it = go it.0 it.1 it.2
  where
    go : (k : ℕ) → k < length (x ∷ xs) → get_or (x ∷ xs) k z ≡ z → (x ≡ z) ⊎ Contains xs z
    go zero within is = inl is
    go (suc k) within is = inr (k, omega arith, is)

pub contains_first : {X : Type 0} (x : X) (xs : List X) → Contains (x ∷ xs) x
contains_first x xs = (zero, omega arith, refl)

pub contains_behind : {X : Type 0} (x z : X) (xs : List X) → Contains xs z → Contains (x ∷ xs) z
contains_behind x z xs it = (suc it.0, omega (arith, it.1), it.2)

-- the first of two lists with the same elements, where both rise
same_first : {X : Type 0} (before : X → X → Bool) → IsStrict before → (x y : X) (xs ys : List X) → Contains (y ∷ ys) x → Contains (x ∷ xs) y → Rises before (x ∷ xs) → Rises before (y ∷ ys) → x ≡ y
same_first before strict x y xs ys there back first second =
    ⊎_elim (λ is. sym is)
    (λ behind. ⊎_elim (λ is. is)
    (λ later.
    let down : before y x ≡ true = All-contains (λ b. before y b ≡ true) ys x (pairs_head (λ a b. before a b ≡ true) y ys second) behind in
    let up : before x y ≡ true = All-contains (λ b. before x b ≡ true) xs y (pairs_head (λ a b. before a b ≡ true) x xs first) later in
    absurd (true≢false (sym (strict.trans x y x up down) ∙ strict.irrefl x)))
    (contains_cases x y xs back))
    (contains_cases y x ys there)

-- what is in a list that rises after its first element is not that
behind_first : {X : Type 0} (before : X → X → Bool) → IsStrict before → (x : X) (xs : List X) → Rises before (x ∷ xs) → Contains xs x → ⊥
behind_first before strict x xs rises it =
    let less : before x x ≡ true = All-contains (λ b. before x b ≡ true) xs x (pairs_head (λ a b. before a b ≡ true) x xs rises) it in
    true≢false (sym less ∙ strict.irrefl x)

-- what is after the first of one list is after that of the other
still_there : {X : Type 0} (before : X → X → Bool) → IsStrict before → (x y : X) (xs ys : List X) → x ≡ y → Rises before (x ∷ xs) → ((z : X) → Contains (x ∷ xs) z → Contains (y ∷ ys) z) → (z : X) → Contains xs z → Contains ys z
still_there before strict x y xs ys same rises all z it =
    ⊎_elim (λ is. absurd (behind_first before strict x xs rises (subst (Contains xs) (sym is ∙ sym same) it))) (λ later. later)
    (contains_cases y z ys (all z (contains_behind x z xs it)))

-- two lists with the same elements that both rise are one
one_order : {X : Type 0} (before : X → X → Bool) → IsStrict before → (xs ys : List X) → ((z : X) → Contains xs z → Contains ys z) → ((z : X) → Contains ys z → Contains xs z) → Rises before xs → Rises before ys → xs ≡ ys
one_order before strict [] [] there back first second = refl
one_order before strict [] (y ∷ ys) there back first second = absurd (omega (arith, (back y (contains_first y ys)).1))
one_order before strict (x ∷ xs) [] there back first second = absurd (omega (arith, (there x (contains_first x xs)).1))
one_order before strict (x ∷ xs) (y ∷ ys) there back first second =
    let same = same_first before strict x y xs ys (there x (contains_first x xs)) (back y (contains_first y ys)) first second in
    ap₂ (λ h t. h ∷ t) same
    (one_order before strict xs ys (still_there before strict x y xs ys same first there) (still_there before strict y x ys xs (sym same) second back)
    (pairs_tail (λ a b. before a b ≡ true) x xs first) (pairs_tail (λ a b. before a b ≡ true) y ys second))

-- two orders of one list that both rise are one
same_order : {X : Type 0} (before : X → X → Bool) → IsStrict before → (xs ys : List X) → IsPermutation xs ys → Rises before xs → Rises before ys → xs ≡ ys
same_order before strict xs ys same first second =
    one_order before strict xs ys (λ z. Contains-permutation xs ys z same) (λ z. Contains-permutation ys xs z (IsPermutation-sym xs ys same)) first second

-- where an exchange of two places takes an element from
abbrev moved : ℕ → ℕ → ℕ → ℕ
moved i j k = cond (eqb k i) j (cond (eqb k j) i k)

moved_within : (n i j k : ℕ) → i < n → j < n → k < n → moved i j k < n
moved_within n i j k p q within =
    cond_both (eqb k i) j (cond (eqb k j) i k) (λ m. m < n) (λ _. q) (λ _. cond_both (eqb k j) i k (λ m. m < n) (λ _. p) (λ _. within))

moved_differs : (i j a b : ℕ) → a ≢ b → moved i j a ≢ moved i j b
moved_differs i j a b differ same = grind (arith, nat_tests)

moved_read : {X : Type 0} (l : List X) (i j : ℕ) → i < length l → j < length l → (k : ℕ) (d : X) → get_or (swap l i j) k d ≡ get_or l (moved i j k) d
moved_read l i j p q k d =
    let is = swapped_from_swap l (swap l i j) i j d p q refl in
    cond_both (eqb k i) j (cond (eqb k j) i k) (λ m. get_or (swap l i j) k d ≡ get_or l m d)
    (λ at. ap (λ m. get_or (swap l i j) m d) (eqb-true k i at) ∙ is.0)
    (λ past. cond_both (eqb k j) i k (λ m. get_or (swap l i j) k d ≡ get_or l m d)
    (λ at. ap (λ m. get_or (swap l i j) m d) (eqb-true k j at) ∙ is.1)
    (λ other. is.2 k (eqb-false k i past) (eqb-false k j other)))

-- any two elements at different places
abbrev Apart : {X : Type 0} → (X → X → Type 0) → List X → Type 0
Apart {X} R xs = (i j : ℕ) (d : X) → i ≢ j → i < length xs → j < length xs → R (get_or xs i d) (get_or xs j d)

-- what holds of any two elements, whichever comes first, holds of them in any order
pairs-permutation : {X : Type 0} (R : X → X → Type 0) → ((a b : X) → R a b → R b a) → (xs ys : List X) → IsPermutation xs ys → AllPairs R xs → AllPairs R ys
pairs-permutation {X} R flips xs ys same all = λ i j d less within. apart i j d (omega arith) (omega arith) within
  where
    start : Apart R xs
    start i j d differ p q = ⊎_elim (λ less. all i j d less q) (λ at. flips (get_or xs j d) (get_or xs i d) (all j i d (omega (arith, at, differ)) p)) (cases_lt i j)

    step : (l : List X) (i j : ℕ) → i < length l → j < length l → Apart R l → Apart R (swap l i j)
    step l i j p q apart a b d differ within_a within_b =
        let long = length-swap l i j in
        let a_in : a < length l = omega (arith, long) in
        let b_in : b < length l = omega (arith, long) in
        subst₂ R (sym (moved_read l i j p q a d)) (sym (moved_read l i j p q b d))
        (apart (moved i j a) (moved i j b) d (moved_differs i j a b differ) (moved_within (length l) i j a p q a_in) (moved_within (length l) i j b p q b_in))

    apart : Apart R ys
    apart = IsPermutation-keeps xs (Apart R) start step ys same

-- What es_sort's law says.
pub record KeyLaws : Type 0 where
  pub total : (sort : SortSpec) → IsTotalOrder (compare sort)
  pub apart : (mapping : List Field) (sort : SortSpec) (a b : List Value) (m n : ℕ) → compare sort (full_key mapping sort a m) (full_key mapping sort b n) ≡ Equal → m ≡ n

less_is : (order : Ordering) → is_lt order ≡ true → order ≡ Less
less_is Less e = refl
less_is Equal e = absurd (true≢false (sym e))
less_is Greater e = absurd (true≢false (sym e))

-- places are ordered strictly by their keys
pub places_strict : KeyLaws → (view : View) (sort : SortSpec) → IsStrict (comes_before view sort)
places_strict laws view sort =
    let total = laws.total sort in
    let key : Place → Keys = λ place. key_at view sort place in
    record {
      irrefl = λ a. ap is_lt (tied_itself total (key a));
      trans = λ a b c first later. ap is_lt (total.trans (key a) (key b) (key c) (less_is (compare sort (key a) (key b)) first) (less_is (compare sort (key b) (key c)) later));
    }

either_by : (sort : SortSpec) (a b : Keys) (order : Ordering) → IsTotalOrder (compare sort) → compare sort a b ≡ order → (order ≡ Equal → ⊥) → (is_lt (compare sort a b) ≡ true) ⊎ (is_lt (compare sort b a) ≡ true)
either_by sort a b Less total is differ = inl (ap is_lt is)
either_by sort a b Equal total is differ = absurd (differ refl)
either_by sort a b Greater total is differ = inr (ap is_lt (total.antisymm b a ∙ ap ordering_reverse is))

-- of two places with different numbers one comes before the other
either_first : KeyLaws → (view : View) (sort : SortSpec) (a b : Place) → place_number a ≢ place_number b → Either (comes_before view sort) a b
either_first laws view sort a b differ =
    let order = compare sort (key_at view sort a) (key_at view sort b) in
    either_by sort (key_at view sort a) (key_at view sort b) order (laws.total sort) refl
    (λ same. differ (laws.apart view.mapping sort a.row.values b.row.values (place_number a) (place_number b) same))

-- numbers that rise are no lower than their bound
rising_above : (places : List Place) (low : ℕ) → Rising low places → All (λ (place : Place). low ≤ place_number place) places
rising_above [] low rises = All-nil (λ (place : Place). low ≤ place_number place)
rising_above (place ∷ places) low rises =
    All-cons (λ (it : Place). low ≤ place_number it) place places rises.0
    (All-weaker (λ (it : Place). place_number place + 1 ≤ place_number it) (λ (it : Place). low ≤ place_number it) (λ it above. omega (arith, rises.0, above)) places
    (rising_above places (place_number place + 1) rises.1))

-- of places whose numbers rise one comes before the other
rising_either : KeyLaws → (view : View) (sort : SortSpec) (places : List Place) (low : ℕ) → Rising low places → AllPairs (Either (comes_before view sort)) places
rising_either laws view sort [] low rises = pairs_nil (Either (comes_before view sort))
rising_either laws view sort (place ∷ places) low rises =
    AllPairs-cons (Either (comes_before view sort)) place places
    (All-weaker (λ (it : Place). place_number place + 1 ≤ place_number it) (Either (comes_before view sort) place)
    (λ it above. either_first laws view sort place it (λ same. omega (arith, above, same))) places (rising_above places (place_number place + 1) rises.1))
    (rising_either laws view sort places (place_number place + 1) rises.1)

found_either : KeyLaws → (view : View) (query : Query) (sort : SortSpec) (slice : Option Slice) → HasPlaces view → AllPairs (Either (comes_before view sort)) (found view query slice)
found_either laws view query sort slice has =
    rising_either laws view sort (found view query slice) 0
    (rising_filter (is_wanted view query slice) (places_from 0 view.shards) 0 (rising_places view.shards 0 has))

-- the enumeration has the places that are found, each as often
pub enumeration_same : (view : View) (query : Query) (sort : SortSpec) (slice : Option Slice) → IsPermutation (found view query slice) (enumeration view query sort slice)
enumeration_same view query sort slice = in_order-same (comes_before view sort) (found view query slice)

-- in it each place comes before those after it
pub enumeration_rises : (laws : KeyLaws) (view : View) (query : Query) (sort : SortSpec) (slice : Option Slice) → HasPlaces view
    → AllPairs (λ (a b : Place). comes_before view sort a b ≡ true) (enumeration view query sort slice)
enumeration_rises laws view query sort slice has =
    in_order-rises (comes_before view sort) (places_strict laws view sort) (found view query slice) (found_either laws view query sort slice has)

-- no other order of the found places rises
pub enumeration_only : (laws : KeyLaws) (view : View) (query : Query) (sort : SortSpec) (slice : Option Slice) (places : List Place) → HasPlaces view → IsPermutation (found view query slice) places
    → AllPairs (λ (a b : Place). comes_before view sort a b ≡ true) places → places ≡ enumeration view query sort slice
enumeration_only laws view query sort slice places has same rises =
    same_order (comes_before view sort) (places_strict laws view sort) places (enumeration view query sort slice)
    (IsPermutation-trans places (found view query slice) (enumeration view query sort slice) (IsPermutation-sym (found view query slice) places same) (enumeration_same view query sort slice))
    rises (enumeration_rises laws view query sort slice has)

-- a sort of the found places gives the enumeration
pub sorted_is : (laws : KeyLaws) (view : View) (query : Query) (sort : SortSpec) (slice : Option Slice) (places : List Place) → HasPlaces view → IsPermutation (found view query slice) places
    → IsSortedBy (comes_before view sort) places → places ≡ enumeration view query sort slice
sorted_is laws view query sort slice places has same sorted =
    let either = pairs-permutation (Either (comes_before view sort)) (λ a b it. ⊎_elim inr inl it) (found view query slice) places same (found_either laws view query sort slice has) in
    enumeration_only laws view query sort slice places has same
    (λ i j d less within.
    let late : comes_before view sort (get_or places j d) (get_or places i d) ≡ false = sorted_far (comes_before view sort) (ranks_by (laws.total sort) (key_at view sort)) places sorted i j d (omega arith) within in
    ⊎_elim (λ it. it) (λ wrong. absurd (true≢false (sym wrong ∙ late))) (either i j d less within))
