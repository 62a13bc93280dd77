-- In the order of a sort that shows the places, those beyond what is shown of one are the rest after it.
use Rattle.std.proofs.Common.{◌≡◌, Bool, true, false, List, [], ◌∷◌, ◌++◌, Some, None, All, AllPairs, filter, refl, sym, ap, ◌∙◌, true≢false}
use Rattle.std.proofs.lemmas.Bool.{cond-true, cond-false, false_from_ne_true}
use Rattle.std.proofs.lemmas.List.Elements.{All-head, All-tail, filter_agree}
use Rattle.es_sort.specs.declared.sort.Keys.{Keys}
use Rattle.es_sort.specs.declared.sort.SortSpec.{SortSpec}
use Rattle.list_machine.specs.Pages.{shows_place}
use Rattle.list_machine.specs.Views.{View, Place, comes_before, is_past, shown_at}
use Rattle.list_machine.proofs.Ordered.{IsStrict, KeyLaws, pairs_head, pairs_tail, places_strict}
use Rattle.list_machine.proofs.Shown.{beyond_is}

-- what holds of each holds of one in the middle
middle_has : {X : Type 0} (P : X → Type 0) (front : List X) (x : X) (rest : List X) → All P (front ++ x ∷ rest) → P x
middle_has P [] x rest all = All-head P x rest all
middle_has P (first ∷ front) x rest all = middle_has P front x rest (All-tail P first (front ++ x ∷ rest) all)

-- a test that all pass
pub filter_all : {X : Type 0} (p : X → Bool) (xs : List X) → All (λ x. p x ≡ true) xs → filter p xs ≡ xs
filter_all p [] all = refl
filter_all p (x ∷ xs) all =
    cond-true (p x) (x ∷ filter p xs) (filter p xs) (All-head (λ it. p it ≡ true) x xs all)
    ∙ ap (λ t. x ∷ t) (filter_all p xs (All-tail (λ it. p it ≡ true) x xs all))

-- what is after doesn't come before
not_back : {X : Type 0} (before : X → X → Bool) → IsStrict before → (x y : X) → before x y ≡ true → before y x ≡ false
not_back before strict x y first = false_from_ne_true (before y x) (λ later. true≢false (sym (strict.trans x y x first later) ∙ strict.irrefl x))

-- what one of them comes before is the rest after it
rest_behind : {X : Type 0} (before : X → X → Bool) → IsStrict before → (front : List X) (x : X) (rest : List X)
    → AllPairs (λ a b. before a b ≡ true) (front ++ x ∷ rest) → filter (before x) (front ++ x ∷ rest) ≡ rest
rest_behind before strict [] x rest pairs =
    cond-false (before x x) (x ∷ filter (before x) rest) (filter (before x) rest) (strict.irrefl x)
    ∙ filter_all (before x) rest (pairs_head (λ a b. before a b ≡ true) x rest pairs)
rest_behind before strict (first ∷ front) x rest pairs =
    let behind = front ++ x ∷ rest in
    let others = filter (before x) behind in
    cond-false (before x first) (first ∷ others) others
    (not_back before strict first x (middle_has (λ b. before first b ≡ true) front x rest (pairs_head (λ a b. before a b ≡ true) first behind pairs)))
    ∙ rest_behind before strict front x rest (pairs_tail (λ a b. before a b ≡ true) first behind pairs)

-- each comes before those after it
abbrev pub AreInOrder : View → SortSpec → List Place → Type 0
AreInOrder view sort places = AllPairs (λ (a b : Place). comes_before view sort a b ≡ true) places

-- beyond what is shown of a place are those that follow it
pub beyond_place : (view : View) (sort : SortSpec) → KeyLaws → shows_place sort ≡ true
    → (front : List Place) (place : Place) (rest : List Place) → AreInOrder view sort (front ++ place ∷ rest)
    → (after : Keys) → after.values ≡ shown_at view sort place → filter (is_past view sort (Some after)) (front ++ place ∷ rest) ≡ rest
beyond_place view sort laws shows front place rest ordered after is =
    filter_agree (is_past view sort (Some after)) (comes_before view sort place) (beyond_is view sort (laws.total sort) shows place after is) (front ++ place ∷ rest)
    ∙ rest_behind (comes_before view sort) (places_strict laws view sort) front place rest ordered

-- where no values are given, all places
pub beyond_nothing : (view : View) (sort : SortSpec) (places : List Place) → filter (is_past view sort None) places ≡ places
beyond_nothing view sort places = filter_all (is_past view sort None) places (λ k d less. refl)
