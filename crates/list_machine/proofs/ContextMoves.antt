-- What becomes of the contexts that are there: each keeps its number and its view, and no more of them are live.
use Rattle.std.proofs.Common.{◌≡◌, ℕ, ◌<◌, ◌≤◌, ◌==◌, Bool, true, false, cond, eqb, List, [], ◌∷◌, length, map, get_or, find, count_by, All, AllPairs, Option, Some, ⊎_elim, refl, sym, ap, ap₂, subst, ◌∙◌, arith}
use Rattle.std.specs.Option.{option_map}
use Rattle.std.proofs.lemmas.Bool.{cases_Bool, cond_both, eqb-false, eqb-true}
use Rattle.std.proofs.lemmas.List.{get_or-map, length-map}
use Rattle.std.proofs.lemmas.List.Elements.{All-cons, All-head, All-map, All-nil, All-tail, All-weaker}
use Rattle.std.proofs.lemmas.List.Sums.{sum_by-cons}
use Rattle.list_machine.specs.declared.event.Which.{Which}
use Rattle.list_machine.specs.Views.{View}
use Rattle.list_machine.specs.State.{Context, context_of, is_live}
use Rattle.list_machine.specs.Step.{close_one, is_closing, keep_one, later_expiry}
use Rattle.list_machine.proofs.Ordered.{pairs_head, pairs_tail}

-- what a context has for good
pub record Named : Type 0 where
  pub number : ℕ
  pub view : View

abbrev pub named : Context → Named
named context = record { number = context.number; view = context.view }

abbrev pub Keeps : (Context → Context) → Type 0
Keeps to = (context : Context) → named (to context) ≡ named context

-- the numbers of the contexts rise
abbrev pub Rise : List Context → Type 0
Rise contexts = AllPairs (λ (a b : Context). a.number < b.number) contexts

-- the one of a number among them
abbrev pub named_of : ℕ → List Named → Option Named
named_of number names = find (λ (it : Named). it.number == number) names

-- it is that of the context of that number
pub named_found : (number : ℕ) (contexts : List Context) → named_of number (map named contexts) ≡ option_map named (context_of number contexts)
named_found number [] = refl
named_found number (context ∷ contexts) =
    elim (eqb context.number number) as (λ b. cond b (Some (named context)) (named_of number (map named contexts))
    ≡ option_map named (cond b (Some context) (context_of number contexts)))
    [ true ↦ refl | false ↦ named_found number contexts ]

-- what contexts have for good stays
pub named_kept : (to : Context → Context) → Keeps to → (contexts : List Context) → map named (map to contexts) ≡ map named contexts
named_kept to keeps [] = refl
named_kept to keeps (context ∷ contexts) = ap₂ (λ head tail. head ∷ tail) (keeps context) (named_kept to keeps contexts)

-- their numbers stay below the next
pub kept_issued : (to : Context → Context) → Keeps to → (next : ℕ) (contexts : List Context) → All (λ (context : Context). context.number < next) contexts → All (λ (context : Context). context.number < next) (map to contexts)
kept_issued to keeps next contexts all =
    All-map (λ (context : Context). context.number < next) to contexts
    (All-weaker (λ (context : Context). context.number < next) (λ (context : Context). (to context).number < next)
    (λ context less. subst (λ n. n < next) (sym (ap (λ (it : Named). it.number) (keeps context))) less) contexts all)

-- and they rise as before
pub kept_rise : (to : Context → Context) → Keeps to → (contexts : List Context) → Rise contexts → Rise (map to contexts)
kept_rise to keeps contexts rise i j d less within =
    let j_in : j < length contexts = omega (arith, length-map contexts to, within) in
    let i_in : i < length contexts = omega (arith, less, j_in) in
    let low : (get_or (map to contexts) i d).number ≡ (get_or contexts i d).number =
    ap (λ (c : Context). c.number) (get_or-map to contexts i d d i_in) ∙ ap (λ (it : Named). it.number) (keeps (get_or contexts i d)) in
    let high : (get_or (map to contexts) j d).number ≡ (get_or contexts j d).number =
    ap (λ (c : Context). c.number) (get_or-map to contexts j d d j_in) ∙ ap (λ (it : Named). it.number) (keeps (get_or contexts j d)) in
    let was : (get_or contexts i d).number < (get_or contexts j d).number = rise i j d less j_in in
    omega (arith, low, high, was)

-- what holds of their views goes on to hold
pub kept_views : (Q : View → Type 0) (to : Context → Context) → Keeps to → (contexts : List Context) → All (λ (context : Context). Q context.view) contexts → All (λ (context : Context). Q context.view) (map to contexts)
kept_views Q to keeps contexts all =
    All-map (λ (context : Context). Q context.view) to contexts
    (All-weaker (λ (context : Context). Q context.view) (λ (context : Context). Q (to context).view)
    (λ context has. subst Q (sym (ap (λ (it : Named). it.view) (keeps context))) has) contexts all)

-- one test that passes only where another does counts at most as much
one_fewer : (after before : Bool) → (after ≡ true → before ≡ true) → cond {A = ℕ} after 1 0 ≤ cond before 1 0
one_fewer false before h = omega arith
one_fewer true true h = omega arith
one_fewer true false h = let no : false ≡ true = h refl in absurd (cc)

-- where each passes only if it did before, not more pass
pub count_fewer : {X : Type 0} (p : X → Bool) (to : X → X) (xs : List X) → All (λ x. p (to x) ≡ true → p x ≡ true) xs → count_by p (map to xs) ≤ count_by p xs
count_fewer p to [] all = omega arith
count_fewer p to (x ∷ xs) all =
    let head = one_fewer (p (to x)) (p x) (All-head (λ x. p (to x) ≡ true → p x ≡ true) x xs all) in
    let rest = count_fewer p to xs (All-tail (λ x. p (to x) ≡ true → p x ≡ true) x xs all) in
    omega (arith, head, rest, sum_by-cons (λ x. cond {A = ℕ} (p x) 1 0) x xs, sum_by-cons (λ x. cond {A = ℕ} (p x) 1 0) (to x) (map to xs))

-- where the numbers rise, what holds of the one that is found by a number holds of each that has it
found_all : (P : Context → Type 0) (number : ℕ) (contexts : List Context) (context : Context) → Rise contexts → context_of number contexts ≡ Some context → P context
    → All (λ (c : Context). c.number ≡ number → P c) contexts
found_all P number [] context rise e h = All-nil (λ (c : Context). c.number ≡ number → P c)
found_all P number (first ∷ contexts) context rise e h =
    let Q : Context → Type 0 = λ c. c.number ≡ number → P c in
    let less : Context → Context → Type 0 = λ a b. a.number < b.number in
    ⊎_elim
    (λ (same : eqb first.number number ≡ true).
    let is : Some first ≡ Some context = rw same at e in
    let at : context ≡ first = cc in
    let has : first.number ≡ number = eqb-true first.number number same in
    All-cons Q first contexts (λ _. subst P at h)
    (All-weaker (less first) Q (λ c above is. absurd (omega (arith, above, is, has))) contexts (pairs_head less first contexts rise)))
    (λ (other : eqb first.number number ≡ false).
    All-cons Q first contexts (λ is. absurd (eqb-false first.number number other is))
    (found_all P number contexts context (pairs_tail less first contexts rise) (rw other at e) h))
    (cases_Bool (eqb first.number number))

-- a context that is kept longer is the same one
pub keep_keeps : (moment number keep : ℕ) → Keeps (keep_one moment number keep)
keep_keeps moment number keep context =
    cond_both (eqb context.number number) (record context { expiry = later_expiry moment keep context.expiry }) context (λ (it : Context). named it ≡ named context) (λ _. refl) (λ _. refl)

-- where that one is live, not more are live
pub keep_lives : (moment number keep : ℕ) (contexts : List Context) (context : Context) → context_of number contexts ≡ Some context → is_live moment context ≡ true → Rise contexts
    → count_by (is_live moment) (map (keep_one moment number keep) contexts) ≤ count_by (is_live moment) contexts
keep_lives moment number keep contexts context e live rise =
    count_fewer (is_live moment) (keep_one moment number keep) contexts
    (All-weaker (λ (c : Context). c.number ≡ number → is_live moment c ≡ true) (λ (c : Context). is_live moment (keep_one moment number keep c) ≡ true → is_live moment c ≡ true)
    (λ c its.
    cond_both (eqb c.number number) (record c { expiry = later_expiry moment keep c.expiry }) c (λ (it : Context). is_live moment it ≡ true → is_live moment c ≡ true)
    (λ same _. its (eqb-true c.number number same)) (λ _ lives. lives))
    contexts (found_all (λ (c : Context). is_live moment c ≡ true) number contexts context rise e live))

-- a context that is closed is the same one
pub close_keeps : (moment : ℕ) (which : Which) → Keeps (close_one moment which)
close_keeps moment which context =
    cond_both (is_closing moment which context) (record context { closed = true }) context (λ (it : Context). named it ≡ named context) (λ _. refl) (λ _. refl)

-- and not more are live
pub close_lives : (moment : ℕ) (which : Which) (contexts : List Context) → count_by (is_live moment) (map (close_one moment which) contexts) ≤ count_by (is_live moment) contexts
close_lives moment which contexts =
    count_fewer (is_live moment) (close_one moment which) contexts
    (λ k d within. one (get_or contexts k d))
  where
    one : (c : Context) → is_live moment (close_one moment which c) ≡ true → is_live moment c ≡ true
    one c =
        cond_both (is_closing moment which c) (record c { closed = true }) c (λ (it : Context). is_live moment it ≡ true → is_live moment c ≡ true)
        (λ _ lives. let no : false ≡ true = lives in absurd (cc)) (λ _ lives. lives)
