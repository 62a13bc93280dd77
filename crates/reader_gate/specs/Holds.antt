-- The rule of one reader. Its word counts the holds of all holders, and its slot has the body until the last hold is let go.
-- A seat is a holder's place at the table, and its view is what the holder knows: its holds, how many it let go, and whether one was the last.
use Rattle.std.specs.Prelude.{◌≡◌, ◌⊎◌, ℕ, ◌+◌, ◌<◌, ◌≤◌, List, [], ◌∷◌, Option, Some, None}
use mathlib.Core.Option.{none, some}
use lib.ListN.{get_elem?}
use Rattle.atomic_table.specs.Table.{State}
use Rattle.reader_gate.specs.declared.gate.Role.TheVariants.{Owning, Passing, Gone}
use Rattle.reader_gate.specs.declared.gate.View.{View}

module _ {B : Type 0} where
  -- a number of each view, added up
  abbrev pub total : (View B → ℕ) → List (View B) → ℕ
  total f [] = 0
  total f (v ∷ vs) = f v + total f vs

  -- the holds in all views
  abbrev pub held : List (View B) → ℕ
  held = total (λ v. v.holds)

  -- how often a last hold was let go, in all views
  abbrev pub lasts : List (View B) → ℕ
  lasts = total (λ v. v.lasts)

  -- What is so of each holder. The first seat is the owner's
  pub record Stands (body : B) (seat : ℕ) (v : View B) : Type 0 where
    -- an owner that isn't shut has one hold, or two between a lend and its split
    pub owner : v.role ≡ Owning → (seat ≡ 0) × ((v.holds ≡ 1) ⊎ (v.holds ≡ 2))
    -- only the first seat lends
    pub lender : ¬ (seat ≡ 0) → v.lends ≡ 0
    -- a last hold is one that the seat let go
    pub freed : v.lasts ≤ v.lets
    -- a pass that is out has one hold
    pub pass : v.role ≡ Passing → v.holds ≡ 1
    -- what has let its hold go has none
    pub gone : v.role ≡ Gone → v.holds ≡ 0
    -- a holder's body is the one that the reader was made with
    pub opened : (b : B) → v.body ≡ Some b → b ≡ body

-- The rule. What the slot has is an A, by which a body is told
pub record KeepsCount {A B : Type 0} (told : A → B) (body : B) (s : State (Option A) (View B)) : Type 0 where
  -- the one word is the sum of the holds in all views
  pub counted : s.words ≡ held s.views ∷ []
  -- The holds and those that were let go are 1 and the lends, so the word is at most 1 more than the first seat's lends. Nothing but a step that
  -- takes a hold from the word lets one go: where a seat's lets grow by 1 and no lend begins, its hold is nowhere else.
  pub balanced : held s.views + total (λ v. v.lets) s.views ≡ 1 + total (λ v. v.lends) s.views
  -- where there is a hold, no view is the last, and the body is home
  pub open_none_last : 0 < held s.views → lasts s.views ≡ 0
  pub open_home : 0 < held s.views → (a : A) × (told a ≡ body) × (s.homes ≡ some (Some a) ∷ [])
  -- where there is none, exactly one view is the last, and it has taken the body: the slot is out, or came back empty
  pub ended_one_last : held s.views ≡ 0 → lasts s.views ≡ 1
  pub ended_taken : held s.views ≡ 0 → (s.homes ≡ none ∷ []) ⊎ (s.homes ≡ some None ∷ [])
  pub each : (seat : ℕ) (v : View B) → get_elem? s.views seat ≡ some v → Stands body seat v
