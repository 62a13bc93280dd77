-- A reader that has ended has no holder, and isn't ended twice; it has ended where all have let go; and who lets go takes one from the word.
-- The rule holds between any two steps, whatever threads do, so this is so of every schedule.
use Rattle.std.specs.Prelude.{◌≡◌, ℕ, ◌+◌, ◌<◌, List, [], ◌∷◌, ◌++◌, slice_set, Option}
use mathlib.Core.Option.{some}
use lib.ListN.{get_elem?}
use Rattle.atomic_table.specs.Table.{State}
use Rattle.reader_gate.specs.declared.gate.View.{View}
use Rattle.reader_gate.specs.Holds.{held, total, KeepsCount}

module _ {A B : Type 0} where
  -- the view is the last once, no view has a hold, and no other view is the last
  pub record IsAlone (s : State (Option A) (View B)) (seat : ℕ) (v : View B) : Type 0 where
    pub once : v.lasts ≡ 1
    pub no_holder : (other : ℕ) (u : View B) → get_elem? s.views other ≡ some u → u.holds ≡ 0
    pub no_other : (other : ℕ) (u : View B) → ¬ (seat ≡ other) → get_elem? s.views other ≡ some u → u.lasts ≡ 0

  -- so is each view that is the last, wherever the rule holds
  abbrev pub EndsOnce : (A → B) → Type 0
  EndsOnce told = (body : B) (s : State (Option A) (View B)) → KeepsCount told body s
      → (seat : ℕ) (v : View B) → get_elem? s.views seat ≡ some v → 0 < v.lasts → IsAlone s seat v

  -- where no view has a hold, one view is the last
  abbrev pub EndsAtLast : (A → B) → Type 0
  EndsAtLast told = (body : B) (s : State (Option A) (View B)) → KeepsCount told body s
      → ((seat : ℕ) (v : View B) → get_elem? s.views seat ≡ some v → v.holds ≡ 0)
      → (seat : ℕ) × (v : View B) × (get_elem? s.views seat ≡ some v) × (v.lasts ≡ 1)

  -- One seat changed and new ones came: where it had one hold and has none, let one go more and began no lend, the word is 1 less,
  -- and the new seats have no hold and let none go
  abbrev pub LetsOneGo : (A → B) → Type 0
  LetsOneGo told = (body : B) (s t : State (Option A) (View B)) → KeepsCount told body s → KeepsCount told body t
      → (seat : ℕ) (v w : View B) (fresh : List (View B)) → get_elem? s.views seat ≡ some v → t.views ≡ slice_set s.views seat w ++ fresh
      → v.holds ≡ 1 → w.holds ≡ 0 → w.lets ≡ v.lets + 1 → w.lends ≡ v.lends
      → (s.words ≡ (held t.views + 1) ∷ []) × (t.words ≡ held t.views ∷ []) × (held fresh ≡ 0) × (total (λ u. u.lets) fresh ≡ 0)
