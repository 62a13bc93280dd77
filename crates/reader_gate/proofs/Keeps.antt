-- Each step keeps the rule of a reader's table.
use Rattle.std.proofs.Common.{◌≡◌, ℕ, zero, suc, ◌+◌, ◌-◌, ◌%◌, ◌^◌, ◌<◌, ◌≤◌, inl, inr, List, [], ◌∷◌, ◌++◌, get_or, set, sym, refl, ap, ◌∙◌, subst, arith, Some, Option}
use mathlib.Core.Logic.{dite}
use mathlib.Core.Option.{none, some, some-injective, some-ne-none}
use mathlib.Core.Option as maybe
use native.Mathlib.Decide.{ℕ_discrete}
use lib.ListN.{get_elem?}
use Rattle.atomic_table.specs.Table.{State, Me, step, keeps, takes, stepped, Allows, Splits, opening as table_opening}
use Rattle.atomic_table.proofs.Lists.{at_set, at_snoc}
use Rattle.reader_gate.specs.declared.gate.Role.TheVariants.{Owning, Gone}
use Rattle.reader_gate.specs.declared.gate.View.{View}
use Rattle.reader_gate.specs.Holds.{held, lasts, total, Stands, KeepsCount}
use Rattle.reader_gate.specs.Steps.{opening, lending, one_kept, one_given, gone_of, last_of, lent, lets_go}
use Rattle.reader_gate.proofs.Totals.{total-set, total-snoc, total-at, total-first}

module _ {A B : Type 0} (told : A → B) (body : B) where
  abbrev St : Type 0
  St = State (Option A) (View B)

  -- the owner's first view
  first_stands : Stands body 0 (opening body)
  first_stands = record { owner = λ _. (refl, inl refl); lender = λ _. refl; freed = omega arith; pass = λ e. (cc); gone = λ e. (cc); opened = λ b e. sym (cc) }

  first_seat : (seat : ℕ) (v : View B) → get_elem? (opening body ∷ []) seat ≡ some v → Stands body seat v
  first_seat zero v at = subst (λ u. Stands body 0 u) (some-injective (opening body) v at) first_stands
  first_seat (suc seat) v at = absurd (some-ne-none v (sym at))

  -- a new reader
  pub opens : (a : A) → told a ≡ body → KeepsCount told body (table_opening (1 ∷ []) (Some a ∷ []) (opening body))
  opens a is = record {
    counted = refl;
    balanced = refl;
    open_none_last = λ _. refl;
    open_home = λ _. (a, is, refl);
    ended_one_last = λ h. absurd (omega arith);
    ended_taken = λ h. absurd (omega arith);
    each = first_seat;
  }

  -- a view changes, and the word with it, and there is still a hold
  changed : (s : St) (r : KeepsCount told body s) (n id : ℕ) (v w : View B) (c : List (ℕ × Option A)) → get_elem? s.views id ≡ some v → 0 < held s.views → 0 < n
      → n + v.holds ≡ held s.views + w.holds → w.lasts ≡ v.lasts → w.holds + w.lets + v.lends ≡ v.holds + v.lets + w.lends → Stands body id w
      → KeepsCount told body (stepped s 0 n id c w keeps)
  changed s r n id v w c at some_held some_left moved same even mine =
      let sum = total-set (λ u. u.holds) s.views id v w at in
      let sum' = total-set (λ u. u.lasts) s.views id v w at in
      let freed = total-set (λ u. u.lets) s.views id v w at in
      let begun = total-set (λ u. u.lends) s.views id v w at in
      let was = r.balanced in
      let is : held (set s.views id w) ≡ n = omega arith in
      let none_last = r.open_none_last some_held in
      let home = r.open_home some_held in
      record {
        counted = rw r.counted (ap (λ (k : ℕ). k ∷ []) (sym is));
        balanced = omega arith;
        open_none_last = λ _. omega arith;
        open_home = λ _. home;
        ended_one_last = λ h. absurd (omega arith);
        ended_taken = λ h. absurd (omega arith);
        each = λ j u e.
            elim (at_set s.views id j w u e) [
              | inl here ↦ subst (λ (p : ℕ × View B). Stands body p.0 p.1) (λ i. (sym here.0 i, here.1 i)) mine
              | inr there ↦ r.each j u there.1
            ];
      }

  -- views with the same sums
  pub same_sums : (s : St) (r : KeepsCount told body s) (views : List (View B)) → held views ≡ held s.views → lasts views ≡ lasts s.views
      → held views + total (λ v. v.lets) views ≡ 1 + total (λ v. v.lends) views
      → ((j : ℕ) (u : View B) → get_elem? views j ≡ some u → Stands body j u) → KeepsCount told body record { words = s.words; homes = s.homes; views = views }
  same_sums s r views h l even each = record {
    counted = r.counted ∙ ap (λ (k : ℕ). k ∷ []) (sym h);
    balanced = even;
    open_none_last = λ p. l ∙ r.open_none_last (omega arith);
    open_home = λ p. r.open_home (omega arith);
    ended_one_last = λ p. l ∙ r.ended_one_last (sym h ∙ p);
    ended_taken = λ p. r.ended_taken (sym h ∙ p);
    each = each;
  }

  -- the word is at most 1 more than the first seat's lends
  within : (s : St) (r : KeepsCount told body s) (v : View B) → get_elem? s.views 0 ≡ some v → held s.views ≤ 1 + v.lends
  within s r v at =
      let all = total-first (λ u. u.lends) s.views v at (λ j u ne e. (r.each j u e).lender ne) in
      let even = r.balanced in omega arith

  -- a lend
  pub lends : (slots id : ℕ) (me : Me (Option A) (View B)) → me.0.role ≡ Owning → me.0.holds ≡ 1 → me.0.lends < 9007199254740992
      → Allows (KeepsCount told body) slots id me 0 (λ n. (n + 1) % 2 ^ 64) (lent (step slots 0 1 0 none) me)
  lends slots id me owns one few s r _ at small =
      let v = me.0 in
      let w = lending v in
      let mine = r.each id v at in
      let is = mine.owner owns in
      let inside = total-at (λ u. u.holds) s.views id v at in
      let n : ℕ = get_or s.words 0 0 in
      let word : n ≡ held s.views = ap (λ (l : List ℕ). get_or l 0 0) r.counted in
      let most = within s r v (subst (λ (k : ℕ). get_elem? s.views k ≡ some v) is.0 at) in
      let next : held s.views + 1 ≡ (n + 1) % 18446744073709551616 = omega arith in (
        w,
        keeps,
        tt,
        subst (λ (k : ℕ). KeepsCount told body (stepped s 0 k id me.1 w keeps)) next
            (changed s r (held s.views + 1) id v w me.1 at (omega arith) (omega arith) (omega arith) refl (omega arith)
            record { owner = λ _. (is.0, inr (omega arith)); lender = λ ne. absurd (ne is.0); freed = mine.freed; pass = λ e. (cc); gone = λ e. (cc); opened = mine.opened }),
        refl,
      )

  -- what is so of a seat that has no hold
  pub none_stands : (j : ℕ) (u : View B) → u.role ≡ Gone → u.holds ≡ 0 → (¬ (j ≡ 0) → u.lends ≡ 0) → u.lasts ≤ u.lets → ((b : B) → u.body ≡ Some b → b ≡ body) → Stands body j u
  none_stands j u is empty first less o = record { owner = λ e. (cc); lender = first; freed = less; pass = λ e. (cc); gone = λ _. empty; opened = o }

  -- the last hold goes, and the seat has the slot
  ends : (s : St) (r : KeepsCount told body s) (id : ℕ) (v : View B) (c : List (ℕ × Option A)) (a : A) → get_elem? s.views id ≡ some v → v.holds ≡ 1 → v.lasts ≡ 0 → held s.views ≡ 1
      → s.homes ≡ some (Some a) ∷ [] → KeepsCount told body (stepped s 0 0 id c (last_of v) (takes 0 (Some a)))
  ends s r id v c a at one none_yet sole home =
      let w = last_of v in
      let mine = r.each id v at in
      let sum = total-set (λ u. u.holds) s.views id v w at in
      let sum' = total-set (λ u. u.lasts) s.views id v w at in
      let freed = total-set (λ u. u.lets) s.views id v w at in
      let begun = total-set (λ u. u.lends) s.views id v w at in
      let was = r.balanced in
      let none_last = r.open_none_last (omega arith) in
      let is : held (set s.views id w) ≡ 0 = omega arith in
      record {
        counted = rw r.counted (ap (λ (k : ℕ). k ∷ []) (sym is));
        balanced = omega arith;
        open_none_last = λ h. absurd (omega arith);
        open_home = λ h. absurd (omega arith);
        ended_one_last = λ _. omega arith;
        ended_taken = λ _. inl (ap (λ (hs : List (maybe.Option (Option A))). set hs 0 none) home);
        each = λ j u e.
            elim (at_set s.views id j w u e) [
              | inl here ↦ subst (λ (p : ℕ × View B). Stands body p.0 p.1) (λ i. (sym here.0 i, here.1 i)) (none_stands id w refl (omega arith) mine.lender (omega arith) mine.opened)
              | inr there ↦ r.each j u there.1
            ];
      }

  -- a hold is let go
  pub leaves : (slots id : ℕ) (me : Me (Option A) (View B)) → me.0.holds ≡ 1 → me.0.lasts ≡ 0
      → Allows (KeepsCount told body) slots id me 0 (λ n. (n + (2 ^ 64 - 1)) % 2 ^ 64) (lets_go told (step slots 0 1 0 none) me)
  leaves slots id me one none_yet s r _ at small =
      let v = me.0 in
      let mine = r.each id v at in
      let inside = total-at (λ u. u.holds) s.views id v at in
      let n : ℕ = get_or s.words 0 0 in
      let word : n ≡ held s.views = ap (λ (l : List ℕ). get_or l 0 0) r.counted in
      let home = r.open_home (omega arith) in
      let left : ℕ = held s.views - 1 in
      let next : left ≡ (n + 18446744073709551615) % 18446744073709551616 = omega arith in
      dite (ℕ_discrete n 1)
      (λ sole.
      let none_left : 0 ≡ (n + 18446744073709551615) % 18446744073709551616 = omega arith in (
        last_of v,
        takes 0 (Some home.0),
        ap (λ (hs : List (maybe.Option (Option A))). get_elem? hs 0) home.2,
        subst (λ (k : ℕ). KeepsCount told body (stepped s 0 k id me.1 (last_of v) (takes 0 (Some home.0)))) none_left
            (ends s r id v me.1 home.0 at one none_yet (omega arith) home.2),
        ((λ _. (home.0, refl, λ b e. home.1 ∙ sym (mine.opened b e))), λ other. absurd (other sole)),
      ))
      (λ others. (
        gone_of v,
        keeps,
        tt,
        subst (λ (k : ℕ). KeepsCount told body (stepped s 0 k id me.1 (gone_of v) keeps)) next
            (changed s r left id v (gone_of v) me.1 at (omega arith) (omega arith) (omega arith) refl (omega arith)
            (none_stands id (gone_of v) refl (omega arith) mine.lender (omega arith) mine.opened)),
        ((λ sole. absurd (others sole)), λ _. refl),
      ))

  -- a split
  pub splits : (id : ℕ) (v : View B) → v.role ≡ Owning → v.holds ≡ 2 → Splits (KeepsCount told body) id v (one_kept v) (one_given v)
  splits id v owns two s r at =
      let w = one_kept v in
      let p = one_given v in
      let mine = r.each id v at in
      let is = mine.owner owns in
      let sum = total-set (λ u. u.holds) s.views id v w at in
      let sum' = total-set (λ u. u.lasts) s.views id v w at in
      let freed = total-set (λ u. u.lets) s.views id v w at in
      let begun = total-set (λ u. u.lends) s.views id v w at in
      let all = total-snoc (λ u. u.holds) (set s.views id w) p in
      let all' = total-snoc (λ u. u.lasts) (set s.views id w) p in
      let all_freed = total-snoc (λ u. u.lets) (set s.views id w) p in
      let all_begun = total-snoc (λ u. u.lends) (set s.views id w) p in
      let was = r.balanced in
      same_sums s r (set s.views id w ++ p ∷ []) (omega arith) (omega arith) (omega arith) (λ j u e.
      elim (at_snoc (set s.views id w) p u j e) [
        | inl old ↦ elim (at_set s.views id j w u old) [
          | inl here ↦ subst (λ (z : ℕ × View B). Stands body z.0 z.1) (λ i. (sym here.0 i, here.1 i))
              record { owner = λ _. (is.0, inl (omega arith)); lender = mine.lender; freed = mine.freed; pass = λ e. (cc); gone = λ e. (cc); opened = mine.opened }
          | inr there ↦ r.each j u there.1
        ]
        | inr new ↦ subst (λ (z : View B). Stands body j z) new
            record { owner = λ e. (cc); lender = λ _. refl; freed = omega arith; pass = λ _. refl; gone = λ e. (cc); opened = mine.opened }
      ])
