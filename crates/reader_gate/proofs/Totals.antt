-- Sums over the views of all seats, after one view changed or came.
use Rattle.std.proofs.Common.{◌≡◌, ℕ, zero, suc, ◌+◌, ◌≤◌, List, [], ◌∷◌, ◌++◌, set, sym, refl, ap, arith, inl, inr, ◌<◌}
use Rattle.std.proofs.lemmas.Bool.{cases_eq}
use mathlib.Core.Option.{some, some-injective, some-ne-none}
use lib.ListN.{get_elem?}
use Rattle.reader_gate.specs.declared.gate.View.{View}
use Rattle.reader_gate.specs.Holds.{total}

module _ {B : Type 0} (f : View B → ℕ) where
  -- one view changes
  pub total-set : (l : List (View B)) (i : ℕ) (v w : View B) → get_elem? l i ≡ some v → total f (set l i w) + f v ≡ total f l + f w
  total-set [] i v w e = absurd (some-ne-none v (sym e))
  total-set (x ∷ xs) zero v w e = let is : f x ≡ f v = ap f (some-injective x v e) in omega arith
  total-set (x ∷ xs) (suc i) v w e = let r = total-set xs i v w e in omega arith

  -- one view comes
  pub total-snoc : (l : List (View B)) (v : View B) → total f (l ++ v ∷ []) ≡ total f l + f v
  total-snoc [] v = omega arith
  total-snoc (x ∷ xs) v = let r = total-snoc xs v in omega arith

  -- some come
  pub total-append : (l m : List (View B)) → total f (l ++ m) ≡ total f l + total f m
  total-append [] m = omega arith
  total-append (x ∷ xs) m = let r = total-append xs m in omega arith

  -- each view is within the sum
  pub total-at : (l : List (View B)) (i : ℕ) (v : View B) → get_elem? l i ≡ some v → f v ≤ total f l
  total-at [] i v e = absurd (some-ne-none v (sym e))
  total-at (x ∷ xs) zero v e = let is : f x ≡ f v = ap f (some-injective x v e) in omega arith
  total-at (x ∷ xs) (suc i) v e = let r = total-at xs i v e in omega arith

  -- two views are within it together
  pub total-two : (l : List (View B)) (i j : ℕ) (v w : View B) → ¬ (i ≡ j) → get_elem? l i ≡ some v → get_elem? l j ≡ some w → f v + f w ≤ total f l
  total-two [] i j v w ne e d = absurd (some-ne-none v (sym e))
  total-two (x ∷ xs) zero zero v w ne e d = absurd (ne refl)
  total-two (x ∷ xs) zero (suc j) v w ne e d = let is : f x ≡ f v = ap f (some-injective x v e) in let r = total-at xs j w d in omega arith
  total-two (x ∷ xs) (suc i) zero v w ne e d = let is : f x ≡ f w = ap f (some-injective x w d) in let r = total-at xs i v e in omega arith
  total-two (x ∷ xs) (suc i) (suc j) v w ne e d = let r = total-two xs i j v w (λ h. ne (ap suc h)) e d in omega arith

  -- where it is nothing in each view, it is nothing in all
  pub total-none : (l : List (View B)) → ((i : ℕ) (v : View B) → get_elem? l i ≡ some v → f v ≡ 0) → total f l ≡ 0
  total-none [] none_has = refl
  total-none (x ∷ xs) none_has = let here = none_has 0 x refl in let rest = total-none xs (λ i v e. none_has (suc i) v e) in omega arith

  -- where the first view alone has some, all have what it has
  pub total-first : (l : List (View B)) (v : View B) → get_elem? l 0 ≡ some v → ((i : ℕ) (u : View B) → ¬ (i ≡ 0) → get_elem? l i ≡ some u → f u ≡ 0) → total f l ≡ f v
  total-first [] v e none_else = absurd (some-ne-none v (sym e))
  total-first (x ∷ xs) v e none_else =
      let is : f x ≡ f v = ap f (some-injective x v e) in
      let rest = total-none xs (λ i u at. none_else (suc i) u (λ z. absurd (omega arith)) at) in omega arith

  -- where it is something in all, some view has it
  pub total-some : (l : List (View B)) → 0 < total f l → (i : ℕ) × (v : View B) × (get_elem? l i ≡ some v) × (0 < f v)
  total-some [] h = absurd (omega arith)
  total-some (x ∷ xs) h = elim (cases_eq (f x) 0) [
    | inl zero_here ↦ let r = total-some xs (omega arith) in (suc r.0, r.1, r.2, r.3)
    | inr some_here ↦ (0, x, refl, omega arith)
  ]
