-- How a list is parted by a test.
use Rattle.std.proofs.Common.{◌≡◌, ◌+◌, Bool, true, false, cond, not, List, [], ◌∷◌, length, refl, sym, ap, ◌∙◌, ⊎_elim, arith}
use Rattle.std.specs.List.{count_by, filter}
use Rattle.std.proofs.lemmas.Bool.{cases_Bool}
use Rattle.std.proofs.lemmas.List.{nil_from_length}
use Rattle.std.proofs.lemmas.List.Filters.{length-filter_both}
use Rattle.std.proofs.lemmas.List.Sums.{length-filter, sum_by-cons}

-- where none passes
pub none_passes : {X : Type 0} (p : X → Bool) (xs : List X) → count_by p xs ≡ 0 → filter p xs ≡ []
none_passes p xs none = nil_from_length (filter p xs) (length-filter p xs ∙ none)

pub all_stay : {X : Type 0} (p : X → Bool) (xs : List X) → count_by p xs ≡ 0 → filter (λ x. not (p x)) xs ≡ xs
all_stay p [] none = refl
all_stay p (x ∷ xs) none =
    let total : cond (p x) 1 0 + count_by p xs ≡ 0 = sym (sum_by-cons (λ x. cond (p x) 1 0) x xs) ∙ none in
    ⊎_elim
    (λ (here : p x ≡ true). absurd (grind arith))
    (λ (other : p x ≡ false). let rest : count_by p xs ≡ 0 = grind arith in rw other (ap (λ ys. x ∷ ys) (all_stay p xs rest)))
    (cases_Bool (p x))

-- those that pass and the others are all
pub both_counts : {X : Type 0} (p : X → Bool) (xs : List X) → count_by p xs + count_by (λ x. not (p x)) xs ≡ length xs
both_counts p xs =
    let both = length-filter_both p (λ x. not (p x)) (λ _. refl) xs in
    omega (arith, both, length-filter p xs, length-filter (λ x. not (p x)) xs)
