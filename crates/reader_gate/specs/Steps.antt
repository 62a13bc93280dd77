-- The kinds of step, by what becomes of the views, and what each tells the holder that takes it.
use Rattle.std.specs.Prelude.{◌≡◌, ◌≢◌, ℕ, ◌+◌, ◌-◌, ◌<◌, ◌∷◌, Option, Some, None}
use Rattle.atomic_table.specs.Table.{Me, Step, rest}
use Rattle.reader_gate.specs.declared.gate.Role.TheVariants.{Owning, Passing, Gone}
use Rattle.reader_gate.specs.declared.gate.View.{View}

module _ {B : Type 0} where
  -- open: the owner has one hold
  abbrev pub opening : B → View B
  opening b = record { role = Owning; holds = 1; lasts = 0; lends = 0; lets = 0; body = Some b }

  -- lend: the owner has one hold more, and has begun one lend more
  abbrev pub lending : View B → View B
  lending v = record v { holds = v.holds + 1; lends = v.lends + 1 }

  -- split: one of the owner's holds goes to a new pass
  abbrev pub one_kept : View B → View B
  one_kept v = record v { holds = v.holds - 1 }

  abbrev pub one_given : View B → View B
  one_given v = record { role = Passing; holds = 1; lasts = 0; lends = 0; lets = 0; body = v.body }

  -- leave, shut, and the drop of a pass or an owner: one hold fewer, and one more let go
  abbrev pub gone_of : View B → View B
  gone_of v = record v { role = Gone; holds = v.holds - 1; lets = v.lets + 1 }

  -- the same, and it was the last hold
  abbrev pub last_of : View B → View B
  last_of v = record v { role = Gone; holds = v.holds - 1; lasts = v.lasts + 1; lets = v.lets + 1 }

  -- join: a view takes in what another has, and that one is spent
  abbrev pub taken_in : View B → View B → View B
  taken_in v w = record v { holds = v.holds + w.holds; lasts = v.lasts + w.lasts; lets = v.lets + w.lets }

  abbrev pub spent : View B
  spent = record { role = Gone; holds = 0; lasts = 0; lends = 0; lets = 0; body = None }

-- a seat with its view, and the slot where it has taken it
abbrev Sat : Type 0 → Type 0 → Type 0
Sat A B = Me (Option A) (View B)

module _ {A B : Type 0} where
  abbrev pub lent : Step (Option A) → Sat A B → ℕ → Sat A B → Type 0
  lent st m found m' = m' ≡ (lending m.0, m.1)

  -- the last hold goes exactly where the word was 1, and then the same step takes the slot
  abbrev pub lets_go : (A → B) → Step (Option A) → Sat A B → ℕ → Sat A B → Type 0
  lets_go told st m found m' =
      (found ≡ 1 → (a : A) × (m' ≡ (last_of m.0, (0, Some a) ∷ m.1)) × ((b : B) → m.0.body ≡ Some b → told a ≡ b))
      × (found ≢ 1 → m' ≡ (gone_of m.0, m.1))

  -- a new seat has no hold
  abbrev pub sits : Step (Option A) → Sat A B → ℕ → Sat A B → Type 0
  sits st m found m' = m'.0 ≡ spent

  -- a view that is the last is so once, and has no hold
  abbrev pub looks : Step (Option A) → Sat A B → ℕ → Sat A B → Type 0
  looks st m found m' = 0 < m.0.lasts → (m.0.lasts ≡ 1) × (m.0.holds ≡ 0)

  -- the slot that was taken comes back
  abbrev pub gives_back : Step (Option A) → Sat A B → ℕ → Sat A B → Type 0
  gives_back st m found m' = m' ≡ (m.0, rest m.1)
