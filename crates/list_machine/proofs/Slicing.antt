-- A slice's enumeration is that of the whole search, without the places that the slice doesn't have.
use Rattle.std.proofs.Common.{◌≡◌, ℕ, ◌+◌, ◌<◌, ◌≤◌, Bool, true, false, cond, ◌&&◌, eqb-true, eq-eqb, List, [], ◌∷◌, length, filter, Some, None, All, AllPairs, Contains, ⊎_elim, refl, sym, ap, subst, ◌∙◌, arith, true≢false, zero-add}
use Rattle.std.specs.Cmp.{IsStrictWeakOrder}
use Rattle.std.proofs.lemmas.Bool.{cond-true, cond-false, cond_both}
use Rattle.std.proofs.lemmas.List.Elements.{All-append, All-cons, All-contains, All-filter, All-head, All-nil, All-weaker, filter_passes}
use Rattle.std.proofs.lemmas.List.Kept.{AllPairs-cons}
use Rattle.std.proofs.lemmas.List.Sorted.{All-permutation, ranks_by}
use Rattle.es_types.specs.declared.row.Row.{Row}
use Rattle.es_query.specs.declared.query.Query.{Query}
use Rattle.es_sort.specs.declared.sort.SortSpec.{SortSpec}
use Rattle.slice_rule.specs.Parts.{part}
use Rattle.list_machine.specs.Sliced.{IsInOne, has_place, slice_of}
use Rattle.list_machine.specs.Sorting.{in_order, put_in}
use Rattle.list_machine.specs.Views.{Place, View, comes_before, enumeration, found, key_at, is_wanted, places_from, places_of_shard}
use Rattle.list_machine.proofs.Ordered.{KeyLaws, contains_behind, contains_cases, contains_first, enumeration_same, pairs_head, pairs_nil, pairs_tail, put_in-same}

true_from_ne_false : (b : Bool) → (b ≡ false → ⊥) → b ≡ true
true_from_ne_false true h = refl
true_from_ne_false false h = absurd (h refl)

module _ {X : Type 0} (before : X → X → Bool) (order : IsStrictWeakOrder before) where
  -- an element comes no later than another
  abbrev Early : X → X → Type 0
  Early x y = before y x ≡ false

  -- what comes before an element comes before one that is no earlier
  before_late : (x y z : X) → before x y ≡ true → Early y z → before x z ≡ true
  before_late x y z first late = true_from_ne_false (before x z) (λ not. true≢false (sym first ∙ order.chain x z y not late))

  put_in-ordered : (x : X) (ys : List X) → AllPairs Early ys → AllPairs Early (put_in before x ys)
  put_in-ordered x [] ordered = AllPairs-cons Early x [] (All-nil (Early x)) ordered
  put_in-ordered x (y ∷ ys) ordered =
      let head = pairs_head Early y ys ordered in
      cond_both (before x y) (x ∷ y ∷ ys) (y ∷ put_in before x ys) (AllPairs Early)
      (λ first. AllPairs-cons Early x (y ∷ ys)
      (All-cons (Early x) y ys (order.one_way x y first) (All-weaker (Early y) (Early x) (λ z late. order.one_way x z (before_late x y z first late)) ys head)) ordered)
      (λ behind. AllPairs-cons Early y (put_in before x ys)
      (All-permutation (Early y) (x ∷ ys) (put_in before x ys) (put_in-same before x ys) (All-cons (Early y) x ys behind head))
      (put_in-ordered x ys (pairs_tail Early y ys ordered)))

  in_order-ordered : (xs : List X) → AllPairs Early (in_order before xs)
  in_order-ordered [] = pairs_nil Early
  in_order-ordered (x ∷ xs) = put_in-ordered x (in_order before xs) (in_order-ordered xs)

  -- what comes before all stands in front of them
  put_in-first : (x : X) (ys : List X) → All (λ y. before x y ≡ true) ys → put_in before x ys ≡ x ∷ ys
  put_in-first x [] all = refl
  put_in-first x (y ∷ ys) all = cond-true (before x y) (x ∷ y ∷ ys) (y ∷ put_in before x ys) (All-head (λ it. before x it ≡ true) y ys all)

  -- of a list with one more element, those that pass
  filter-put_in : (p : X → Bool) (x : X) (ys : List X) → AllPairs Early ys → filter p (put_in before x ys) ≡ cond (p x) (put_in before x (filter p ys)) (filter p ys)
  filter-put_in p x [] ordered = refl
  filter-put_in p x (y ∷ ys) ordered =
      let head = pairs_head Early y ys ordered in
      let passed = filter p (y ∷ ys) in
      cond_both (before x y) (x ∷ y ∷ ys) (y ∷ put_in before x ys) (λ them. filter p them ≡ cond (p x) (put_in before x passed) passed)
      (λ first.
      let all : All (λ z. before x z ≡ true) (y ∷ ys) =
      All-cons (λ z. before x z ≡ true) y ys first (All-weaker (Early y) (λ z. before x z ≡ true) (λ z late. before_late x y z first late) ys head) in
      ap (λ them. cond (p x) them passed) (sym (put_in-first x passed (All-filter p (λ z. before x z ≡ true) (y ∷ ys) all))))
      (λ behind.
      ap (λ them. cond (p y) (y ∷ them) them) (filter-put_in p x ys (pairs_tail Early y ys ordered)) ∙ swapped (p x) (p y) (filter p ys) behind)
    where
      swapped : (a b : Bool) (zs : List X) → before x y ≡ false
          → cond b (y ∷ cond a (put_in before x zs) zs) (cond a (put_in before x zs) zs) ≡ cond a (put_in before x (cond b (y ∷ zs) zs)) (cond b (y ∷ zs) zs)
      swapped true true zs behind = sym (cond-false (before x y) (x ∷ y ∷ zs) (y ∷ put_in before x zs) behind)
      swapped true false zs behind = refl
      swapped false true zs behind = refl
      swapped false false zs behind = refl

  -- what passes of a list in order is what passes, in order
  filter-in_order : (p : X → Bool) (xs : List X) → filter p (in_order before xs) ≡ in_order before (filter p xs)
  filter-in_order p [] = refl
  filter-in_order p (x ∷ xs) =
      filter-put_in p x (in_order before xs) (in_order-ordered xs)
      ∙ ap (λ them. cond (p x) (put_in before x them) them) (filter-in_order p xs)
      ∙ go (p x)
    where
      go : (b : Bool) → cond b (put_in before x (in_order before (filter p xs))) (in_order before (filter p xs)) ≡ in_order before (cond b (x ∷ filter p xs) (filter p xs))
      go true = refl
      go false = refl

-- what passes of those that pass another test
filter-twice : {X : Type 0} (p q : X → Bool) (xs : List X) → filter p (filter q xs) ≡ filter (λ x. p x && q x) xs
filter-twice p q [] = refl
filter-twice {X} p q (x ∷ xs) =
    push (q x)
    ∙ both (p x) (q x) (filter p (filter q xs))
    ∙ ap (λ them. cond (p x && q x) (x ∷ them) them) (filter-twice p q xs)
  where
    push : (b : Bool) → filter p (cond b (x ∷ filter q xs) (filter q xs)) ≡ cond b (cond (p x) (x ∷ filter p (filter q xs)) (filter p (filter q xs))) (filter p (filter q xs))
    push true = refl
    push false = refl

    both : (a b : Bool) (them : List X) → cond b (cond a (x ∷ them) them) them ≡ cond (a && b) (x ∷ them) them
    both true true them = refl
    both true false them = refl
    both false true them = refl
    both false false them = refl

-- what passes of a list is in what passes of it
Contains-filter : {X : Type 0} (p : X → Bool) (xs : List X) (z : X) → p z ≡ true → Contains xs z → Contains (filter p xs) z
Contains-filter p [] z passes it = it
Contains-filter p (x ∷ xs) z passes it =
    cond_both (p x) (x ∷ filter p xs) (filter p xs) (λ them. Contains them z)
    (λ yes. ⊎_elim (λ same. subst (λ y. Contains (x ∷ filter p xs) y) same (contains_first x (filter p xs)))
    (λ behind. contains_behind x z (filter p xs) (Contains-filter p xs z passes behind)) (contains_cases x z xs it))
    (λ no. ⊎_elim (λ same. absurd (true≢false (sym passes ∙ ap p (sym same) ∙ no))) (λ behind. Contains-filter p xs z passes behind) (contains_cases x z xs it))

-- the shards of places
in_shard : (shard rank bound : ℕ) (rows : List Row) → shard < bound → All (λ (place : Place). place.shard < bound) (places_of_shard shard rank rows)
in_shard shard rank bound [] there = All-nil (λ (place : Place). place.shard < bound)
in_shard shard rank bound (row ∷ rows) there =
    All-cons (λ (place : Place). place.shard < bound) (record { shard = shard; rank = rank; row = row }) (places_of_shard shard (rank + 1) rows) there (in_shard shard (rank + 1) bound rows there)

in_shards : (shard : ℕ) (shards : List (List Row)) → All (λ (place : Place). place.shard < shard + length shards) (places_from shard shards)
in_shards shard [] = All-nil (λ (place : Place). place.shard < shard + 0)
in_shards shard (rows ∷ shards) =
    All-append (λ (place : Place). place.shard < shard + length (rows ∷ shards)) (places_of_shard shard 0 rows) (places_from (shard + 1) shards)
    (in_shard shard 0 (shard + length (rows ∷ shards)) rows (omega arith))
    (All-weaker (λ (place : Place). place.shard < (shard + 1) + length shards) (λ (place : Place). place.shard < shard + length (rows ∷ shards)) (λ place it. omega (arith, it))
    (places_from (shard + 1) shards) (in_shards (shard + 1) shards))

-- a slice's enumeration has the places of the whole that it has, as they stand there
pub slice_rest : KeyLaws → (view : View) (query : Query) (sort : SortSpec) (max id : ℕ)
    → enumeration view query sort (Some (slice_of max id)) ≡ filter (has_place view max id) (enumeration view query sort None)
slice_rest laws view query sort max id =
    let whole = found view query None in
    ap (in_order (comes_before view sort)) (sym (filter-twice (has_place view max id) (is_wanted view query None) (places_from 0 view.shards)))
    ∙ sym (filter-in_order (comes_before view sort) (ranks_by (laws.total sort) (key_at view sort)) (has_place view max id) whole)

-- each place of the whole is in the enumeration of one slice alone
pub in_one : KeyLaws → ((max shards shard rank : ℕ) → 1 ≤ max → shard < shards → part max shards shard rank < max)
    → (view : View) (query : Query) (sort : SortSpec) (max : ℕ) (place : Place) → 1 ≤ max → Contains (enumeration view query sort None) place → IsInOne view query sort max place
in_one laws below view query sort max place some it =
    let shards = length view.shards in
    let whole = enumeration view query sort None in
    let own = part max shards place.shard place.rank in
    let within : All (λ (one : Place). one.shard < shards) whole =
    All-permutation (λ (one : Place). one.shard < shards) (found view query None) whole (enumeration_same view query sort None)
    (All-filter (is_wanted view query None) (λ (one : Place). one.shard < shards) (places_from 0 view.shards)
    (subst (λ n. All (λ (one : Place). one.shard < n) (places_from 0 view.shards)) (zero-add shards) (in_shards 0 view.shards))) in
    record {
      id = own;
      below = below max shards place.shard place.rank some (All-contains (λ (one : Place). one.shard < shards) whole place within it);
      there = subst (λ them. Contains them place) (sym (slice_rest laws view query sort max own)) (Contains-filter (has_place view max own) whole place (eq-eqb own own refl) it);
      alone = λ other there.
          let passed : has_place view max other place ≡ true =
          All-contains (λ (one : Place). has_place view max other one ≡ true) (filter (has_place view max other) whole) place (filter_passes (has_place view max other) whole)
          (subst (λ them. Contains them place) (slice_rest laws view query sort max other) there) in
          sym (eqb-true own other passed);
    }
