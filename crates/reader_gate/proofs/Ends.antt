-- What the rule says of a seat that had the last hold, and the steps by which two seats show it.
use Rattle.std.proofs.Common.{◌≡◌, ℕ, zero, suc, ◌+◌, ◌<◌, ◌⊎◌, inl, inr, ⊎_elim, List, [], ◌∷◌, ◌++◌, get_or, set, sym, refl, ap, ◌∙◌, subst, arith, None, Option}
use mathlib.Core.Logic.{dite}
use mathlib.Core.Option.{none, some, some-injective, some-ne-none}
use mathlib.Core.Option as maybe
use native.Mathlib.Decide.{ℕ_discrete}
use lib.ListN.{get_elem?}
use Rattle.atomic_table.specs.Table.{State, Me, step, keeps, gives, Allows, Enters, Joins, put_back}
use Rattle.atomic_table.proofs.Lists.{at_snoc, set_again, set_else}
use Rattle.reader_gate.specs.declared.gate.View.{View}
use Rattle.reader_gate.specs.Ends.{IsAlone, EndsAtLast, EndsOnce, LetsOneGo}
use Rattle.reader_gate.specs.Holds.{held, total, Stands, KeepsCount}
use Rattle.reader_gate.specs.Steps.{spent, taken_in, sits, looks, gives_back}
use Rattle.reader_gate.proofs.Keeps.{none_stands, same_sums}
use Rattle.reader_gate.proofs.Totals.{total-set, total-snoc, total-append, total-at, total-first, total-none, total-some, total-two}

module _ {A B : Type 0} (told : A → B) where
  module _ (body : B) where
    abbrev St : Type 0
    St = State (Option A) (View B)

    -- where a seat had the last hold there is none
    none_held : (s : St) → KeepsCount told body s → (id : ℕ) (v : View B) → get_elem? s.views id ≡ some v → 0 < v.lasts → held s.views ≡ 0
    none_held s r id v at last =
        let one = total-at (λ u. u.lasts) s.views id v at in
        dite (ℕ_discrete (held s.views) 0) (λ none_left. none_left) (λ some_left. let none_last = r.open_none_last (omega arith) in absurd (omega arith))

    -- nobody else has a hold, and it is the only one
    pub alone : (s : St) → KeepsCount told body s → (id : ℕ) (v : View B) → get_elem? s.views id ≡ some v → 0 < v.lasts → IsAlone s id v
    alone s r id v at last =
        let empty = none_held s r id v at last in
        let one = r.ended_one_last empty in
        let mine = total-at (λ u. u.lasts) s.views id v at in
        record {
          once = omega arith;
          no_holder = λ j u e. let its = total-at (λ z. z.holds) s.views j u e in omega arith;
          no_other = λ j u ne e. let both = total-two (λ z. z.lasts) s.views id j v u ne at e in omega arith;
        }

    -- a seat with no hold comes
    pub comes : (slots : ℕ) (m : Me (Option A) (View B)) → Enters (KeepsCount told body) slots 0 (λ n w. sits (step slots 0 0 0 none) m n (w, []))
    comes slots m s r _ _ =
        let all = total-snoc (λ u. u.holds) s.views spent in
        let all' = total-snoc (λ u. u.lasts) s.views spent in
        let freed = total-snoc (λ u. u.lets) s.views spent in
        let begun = total-snoc (λ u. u.lends) s.views spent in
        let was = r.balanced in (
          spent,
          same_sums told body s r (s.views ++ spent ∷ []) (omega arith) (omega arith) (omega arith) (λ j u e.
              elim (at_snoc s.views spent u j e) [
                | inl old ↦ r.each j u old
                | inr new ↦ subst (λ (z : View B). Stands body j z) new (none_stands told body j spent refl refl (λ _. refl) (omega arith) (λ b e. (cc)))
              ]),
          refl,
        )

    -- a seat that had the last hold takes in another that has a hold or had the last one too: there is no such other
    pub joins : (id other : ℕ) (v w : View B) → 0 < v.lasts → (0 < w.holds) ⊎ (0 < w.lasts) → Joins (KeepsCount told body) id v other w (taken_in v w) spent
    joins id other v w last either s r at ne at' =
        let there : get_elem? s.views other ≡ some w = sym (set_else s.views id other (taken_in v w) ne) ∙ at' in
        let is = alone s r id v at last in
        let none_held = is.no_holder other w there in
        let none_last = is.no_other other w (λ e. ne (sym e)) there in
        absurd (⊎_elim (λ h. omega arith) (λ h. omega arith) either)

    -- a word that is written as it was
    same_words : (s : St) → KeepsCount told body s → set s.words 0 (get_or s.words 0 0) ≡ s.words
    same_words s r = rw r.counted refl

    -- a look changes nothing, and tells a seat that had the last hold that it is alone
    pub sees : (slots id : ℕ) (me : Me (Option A) (View B)) → Allows (KeepsCount told body) slots id me 0 (λ n. n) (looks (step slots 0 0 0 none) me)
    sees slots id me s r _ at _ = (
      me.0,
      keeps,
      tt,
      subst (λ (z : List ℕ × List (View B)). KeepsCount told body record { words = z.0; homes = s.homes; views = z.1 }) (λ i. (sym (same_words s r) i, sym (set_again s.views id me.0 at) i)) r,
      λ last. let is = alone s r id me.0 at last in (is.once, is.no_holder id me.0 at),
    )

    -- the slot that was taken comes back, empty
    pub returns_slot : (slots id : ℕ) (me : Me (Option A) (View B)) → 0 < me.0.lasts → me.1 ≡ (0, None) ∷ [] → Allows (KeepsCount told body) slots id me 0 (λ n. n) (gives_back (step slots 0 0 0 none) me)
    returns_slot slots id me last has s r _ at _ =
        let empty = none_held s r id me.0 at last in
        let home : put_back s.homes me.1 ≡ some None ∷ [] = ap (λ (c : List (ℕ × Option A)). put_back s.homes c) has
        ∙ ⊎_elim (λ e. ap (λ (hs : List (maybe.Option (Option A))). set hs 0 (some None)) e) (λ e. ap (λ (hs : List (maybe.Option (Option A))). set hs 0 (some None)) e) (r.ended_taken empty) in (
          me.0,
          gives,
          tt,
          subst (λ (z : List ℕ × List (View B)). KeepsCount told body record { words = z.0; homes = put_back s.homes me.1; views = z.1 }) (λ i. (sym (same_words s r) i, sym (set_again s.views id me.0 at) i))
              record {
                counted = r.counted;
                balanced = r.balanced;
                open_none_last = r.open_none_last;
                open_home = λ h. absurd (omega arith);
                ended_one_last = r.ended_one_last;
                ended_taken = λ _. inr home;
                each = r.each;
              },
          refl,
        )

  -- the laws
  pub ends_once : EndsOnce told
  ends_once body s r id v at last = alone body s r id v at last

  pub ends_at_last : EndsAtLast told
  ends_at_last body s r none_holds =
      let one = r.ended_one_last (total-none (λ u. u.holds) s.views none_holds) in
      let it = total-some (λ u. u.lasts) s.views (omega arith) in
      (it.0, it.1, it.2, (alone body s r it.0 it.1 it.2 it.3).once)

  -- the first seat lends as before, where one seat changed and begun none
  first_lends : (l : List (View B)) (seat : ℕ) (v w : View B) (fresh : List (View B)) → get_elem? l seat ≡ some v → w.lends ≡ v.lends
      → (a : View B) × (b : View B) × (get_elem? l 0 ≡ some a) × (get_elem? (set l seat w ++ fresh) 0 ≡ some b) × (b.lends ≡ a.lends)
  first_lends [] seat v w fresh e same = absurd (some-ne-none v (sym e))
  first_lends (x ∷ xs) zero v w fresh e same = (x, w, refl, refl, same ∙ ap (λ (u : View B). u.lends) (sym (some-injective x v e)))
  first_lends (x ∷ xs) (suc i) v w fresh e same = (x, x, refl, refl, refl)

  pub lets_one_go : LetsOneGo told
  lets_one_go body s t r q seat v w fresh at is one none_has freed same =
      let first = first_lends s.views seat v w fresh at same in
      let was = total-first (λ u. u.lends) s.views first.0 first.2 (λ j u ne e. (r.each j u e).lender ne) in
      let first' : get_elem? t.views 0 ≡ some first.1 = ap (λ (l : List (View B)). get_elem? l 0) is ∙ first.3 in
      let now = total-first (λ u. u.lends) t.views first.1 first' (λ j u ne e. (q.each j u e).lender ne) in
      let holds = total-set (λ u. u.holds) s.views seat v w at in
      let holds' : held t.views ≡ held (set s.views seat w) + held fresh = ap held is ∙ total-append (λ u. u.holds) (set s.views seat w) fresh in
      let gone = total-set (λ u. u.lets) s.views seat v w at in
      let gone' : total (λ u. u.lets) t.views ≡ total (λ u. u.lets) (set s.views seat w) + total (λ u. u.lets) fresh =
      ap (λ (l : List (View B)). total (λ u. u.lets) l) is ∙ total-append (λ u. u.lets) (set s.views seat w) fresh in
      let before = r.balanced in
      let after = q.balanced in
      let fewer : held s.views ≡ held t.views + 1 = omega arith in
      (r.counted ∙ ap (λ (k : ℕ). k ∷ []) fewer, q.counted, omega arith, omega arith)
