-- Contexts of which the same are live: what a look-up, a closing and a keeping longer make of them.
use Rattle.std.proofs.Common.{◌≡◌, ◌≢◌, ℕ, ◌<◌, ◌≤◌, Bool, true, false, cond, not, ◌&&◌, eqb, List, [], ◌∷◌, zero, suc, length, Option, Some, None, All, AllPairs, map, refl, sym, ap, subst, ◌∙◌, ⊎_elim, arith}
use Rattle.std.specs.List.{find, filter, sum_by}
use Rattle.std.specs.Option.{option_map}
use Rattle.std.proofs.lemmas.Bool.{cases_Bool}
use Rattle.std.proofs.lemmas.Bool.Decides.{nat_tests}
use Rattle.std.proofs.lemmas.List.Elements.{All-filter, All-head, All-tail}
use Rattle.std.proofs.lemmas.Option.{none-some}
use Rattle.std.proofs.lemmas.List.Sums.{sum_by-cons}
use Rattle.context_book.specs.declared.context.Context.{Context as Kept}
use Rattle.context_book.specs.Books.{is_kept, live_one, lives, seen}
use Rattle.list_machine.specs.declared.event.Which.{Which}
use Rattle.list_machine.specs.State.{Context, is_live}
use Rattle.list_machine.specs.Step.{close_one, freed, is_closing, is_named, keep_one}
use Rattle.es_core.specs.Contexts.{contexts_seen, live_context}

-- ---- filters

-- a test of what a function makes
pub filter_map : {A B : Type 0} (p : B → Bool) (f : A → B) (xs : List A) → filter p (map f xs) ≡ map f (filter (λ x. p (f x)) xs)
filter_map p f [] = refl
filter_map p f (x ∷ xs) =
    elim (p (f x)) as (λ b. cond b (f x ∷ filter p (map f xs)) (filter p (map f xs)) ≡ map f (cond b (x ∷ filter (λ x. p (f x)) xs) (filter (λ x. p (f x)) xs)))
    [ true ↦ ap (λ rest. f x ∷ rest) (filter_map p f xs) | false ↦ filter_map p f xs ]

-- two tests, in either order
pub filter_swap : {A : Type 0} (p q : A → Bool) (xs : List A) → filter p (filter q xs) ≡ filter q (filter p xs)
filter_swap p q [] = refl
filter_swap p q (x ∷ xs) =
    let rest = filter_swap p q xs in
    ⊎_elim
    (λ (yes : p x ≡ true). ⊎_elim
    (λ (also : q x ≡ true). rw yes (rw also (rw yes (ap (λ them. x ∷ them) rest))))
    (λ (no : q x ≡ false). rw yes (rw no rest))
    (cases_Bool (q x)))
    (λ (no : p x ≡ false). ⊎_elim
    (λ (also : q x ≡ true). rw no (rw also (rw no rest)))
    (λ (neither : q x ≡ false). rw no (rw neither rest))
    (cases_Bool (q x)))
    (cases_Bool (p x))

-- both tests at once
filter_both : {A : Type 0} (p q : A → Bool) (xs : List A) → filter (λ x. p x && q x) xs ≡ filter q (filter p xs)
filter_both p q [] = refl
filter_both p q (x ∷ xs) =
    let rest = filter_both p q xs in
    elim (p x) as (λ b. cond (b && q x) (x ∷ filter (λ x. p x && q x) xs) (filter (λ x. p x && q x) xs) ≡ filter q (cond b (x ∷ filter p xs) (filter p xs)))
    [ true ↦ ap (λ them. cond (q x) (x ∷ them) them) rest | false ↦ rest ]

-- those that pass sum up to no more than all
pub filter_less : {A : Type 0} (p : A → Bool) (f : A → ℕ) (xs : List A) → sum_by f (filter p xs) ≤ sum_by f xs
filter_less p f [] = omega arith
filter_less p f (x ∷ xs) =
    let rest = filter_less p f xs in
    elim (p x) as (λ b. sum_by f (cond b (x ∷ filter p xs) (filter p xs)) ≤ sum_by f (x ∷ xs)) [
      | true ↦ omega (arith, rest, sum_by-cons f x (filter p xs), sum_by-cons f x xs)
      | false ↦ omega (arith, rest, sum_by-cons f x xs)
    ]

-- ---- which are live

-- one that is live later is live before
live_before : (moment later : ℕ) (context : Context) → moment ≤ later → is_live later context ≡ true → is_live moment context ≡ true
live_before moment later context before live = grind (arith, nat_tests)

-- one that is no longer live isn't live later
dead_later : (moment later : ℕ) (context : Context) → moment ≤ later → is_live moment context ≡ false → is_live later context ≡ false
dead_later moment later context before dead = grind (arith, nat_tests)

-- those that are live later are among those that are live before
pub live_again : (moment later : ℕ) (contexts : List Context) → moment ≤ later
    → filter (is_live later) (filter (is_live moment) contexts) ≡ filter (is_live later) contexts
live_again moment later [] before = refl
live_again moment later (context ∷ contexts) before =
    let rest = live_again moment later contexts before in
    ⊎_elim
    (λ (live : is_live moment context ≡ true). rw live (ap (λ them. cond (is_live later context) (context ∷ them) them) rest))
    (λ (dead : is_live moment context ≡ false). rw dead (rw (dead_later moment later context before dead) rest))
    (cases_Bool (is_live moment context))

-- the contexts that stay in a book at a reaping are those that are live
pub reaped_seen : (moment : ℕ) (contexts : List Kept) → contexts_seen (filter (lives moment) contexts) ≡ filter (is_live moment) (contexts_seen contexts)
reaped_seen moment contexts = sym (filter_map (is_live moment) seen contexts)

-- ---- look-ups

abbrev has_number : ℕ → Context → Bool
has_number number context = eqb context.number number

-- the live one of a book, as the machine has it
pub live_seen : (number moment : ℕ) (contexts : List Kept) → live_context number moment (contexts_seen contexts) ≡ option_map seen (live_one number moment contexts)
live_seen number moment [] = refl
live_seen number moment (context ∷ contexts) =
    let rest = live_seen number moment contexts in
    elim (lives moment context) as (λ b. find (has_number number) (cond b (seen context ∷ filter (is_live moment) (contexts_seen contexts)) (filter (is_live moment) (contexts_seen contexts)))
    ≡ option_map seen (find (λ (it : Kept). eqb it.number number) (cond b (context ∷ filter (lives moment) contexts) (filter (lives moment) contexts)))) [
      | true ↦
          elim (eqb context.number number) as (λ b. cond b (Some (seen context)) (find (has_number number) (filter (is_live moment) (contexts_seen contexts)))
          ≡ option_map seen (cond b (Some context) (find (λ (it : Kept). eqb it.number number) (filter (lives moment) contexts))))
          [ true ↦ refl | false ↦ rest ]
      | false ↦ rest
    ]

-- the context, where it is live
abbrev pub alive : ℕ → Option Context → Option Context
alive moment None = None
alive moment (Some context) = cond (is_live moment context) (Some context) None

-- the numbers rise
abbrev pub SeenRises : List Context → Type 0
SeenRises contexts = AllPairs (λ (a b : Context). a.number < b.number) contexts

-- where no context has a number, no live one has
none_live : (number moment : ℕ) (contexts : List Context) → All (λ (context : Context). context.number ≢ number) contexts → live_context number moment contexts ≡ None
none_live number moment [] others = refl
none_live number moment (context ∷ contexts) others =
    let differs : context.number ≢ number = All-head (λ (it : Context). it.number ≢ number) context contexts others in
    let rest = none_live number moment contexts (All-tail (λ (it : Context). it.number ≢ number) context contexts others) in
    let no : eqb context.number number ≡ false = grind arith in
    elim (is_live moment context) as (λ b. find (has_number number) (cond b (context ∷ filter (is_live moment) contexts) (filter (is_live moment) contexts)) ≡ None)
    [ true ↦ rw no rest | false ↦ rest ]

rises_later : (context : Context) (contexts : List Context) → SeenRises (context ∷ contexts) → SeenRises contexts
rises_later context contexts rises = λ i j d less within. rises (suc i) (suc j) d (omega arith) (omega arith)

-- after one of a number none has it
others_after : (number : ℕ) (context : Context) (contexts : List Context) → SeenRises (context ∷ contexts) → context.number ≡ number
    → All (λ (it : Context). it.number ≢ number) contexts
others_after number context contexts rises is = λ k d within equal. let less = rises zero (suc k) d (omega arith) (omega arith) in omega arith

-- the live context of a number is the context of it, where that is live
pub live_context-is : (number moment : ℕ) (contexts : List Context) → SeenRises contexts
    → live_context number moment contexts ≡ alive moment (find (λ (context : Context). eqb context.number number) contexts)
live_context-is number moment [] rises = refl
live_context-is number moment (context ∷ contexts) rises =
    let rest = live_context-is number moment contexts (rises_later context contexts rises) in
    ⊎_elim
    (λ (same : eqb context.number number ≡ true).
    let is : context.number ≡ number = grind arith in
    let above = others_after number context contexts rises is in
    rw same (elim (is_live moment context) as (λ b. find (has_number number) (cond b (context ∷ filter (is_live moment) contexts) (filter (is_live moment) contexts)) ≡ cond b (Some context) None)
    [ true ↦ rw same refl | false ↦ none_live number moment contexts above ]))
    (λ (other : eqb context.number number ≡ false).
    rw other (elim (is_live moment context) as (λ b. find (has_number number) (cond b (context ∷ filter (is_live moment) contexts) (filter (is_live moment) contexts)) ≡ alive moment (find (has_number number) contexts))
    [ true ↦ rw other rest | false ↦ rest ]))
    (cases_Bool (eqb context.number number))

-- ---- keeping longer

abbrev kept : ℕ → ℕ → ℕ → List Context → List Context
kept moment number keep contexts = map (keep_one moment number keep) contexts

-- where none has the number all stay as they are
kept_others : (moment number keep : ℕ) (contexts : List Context) → All (λ (context : Context). context.number ≢ number) contexts → kept moment number keep contexts ≡ contexts
kept_others moment number keep [] others = refl
kept_others moment number keep (context ∷ contexts) others =
    let differs : context.number ≢ number = All-head (λ (it : Context). it.number ≢ number) context contexts others in
    let rest = kept_others moment number keep contexts (All-tail (λ (it : Context). it.number ≢ number) context contexts others) in
    let no : eqb context.number number ≡ false = grind arith in
    rw no (ap (λ them. context ∷ them) rest)

-- what follows for those after the first
kept_head : (moment later number keep : ℕ) (context : Context) (contexts : List Context) → is_live moment context ≡ true
    → filter (is_live later) (kept moment number keep contexts) ≡ filter (is_live later) (kept moment number keep (filter (is_live moment) contexts))
    → filter (is_live later) (kept moment number keep (context ∷ contexts)) ≡ filter (is_live later) (kept moment number keep (filter (is_live moment) (context ∷ contexts)))
kept_head moment later number keep context contexts live rest =
    let first : Context = keep_one moment number keep context in
    rw live (ap (λ them. cond (is_live later first) (first ∷ them) them) rest)

-- Which are live later once one is kept longer: what is live before says it, since the one is live.
pub kept_live : (moment later number keep : ℕ) (contexts : List Context) (one : Context) → moment ≤ later → SeenRises contexts
    → live_context number moment contexts ≡ Some one
    → filter (is_live later) (kept moment number keep contexts) ≡ filter (is_live later) (kept moment number keep (filter (is_live moment) contexts))
kept_live moment later number keep [] one before rises found = refl
kept_live moment later number keep (context ∷ contexts) one before rises found =
    let rest_rises = rises_later context contexts rises in
    ⊎_elim
    (λ (same : eqb context.number number ≡ true).
    let is : context.number ≡ number = grind arith in
    let above = others_after number context contexts rises is in
    ⊎_elim
    (λ (live : is_live moment context ≡ true).
    kept_head moment later number keep context contexts live
    (ap (filter (is_live later)) (kept_others moment number keep contexts above)
    ∙ sym (live_again moment later contexts before)
    ∙ sym (ap (filter (is_live later)) (kept_others moment number keep (filter (is_live moment) contexts) (All-filter (is_live moment) (λ (it : Context). it.number ≢ number) contexts above)))))
    (λ (dead : is_live moment context ≡ false).
    let none : find (has_number number) (filter (is_live moment) contexts) ≡ Some one = subst (λ b. find (has_number number) (cond b (context ∷ filter (is_live moment) contexts) (filter (is_live moment) contexts)) ≡ Some one) dead found in
    absurd (none-some one (sym (none_live number moment contexts above) ∙ none)))
    (cases_Bool (is_live moment context)))
    (λ (other : eqb context.number number ≡ false).
    ⊎_elim
    (λ (live : is_live moment context ≡ true).
    let there : find (has_number number) (context ∷ filter (is_live moment) contexts) ≡ Some one = subst (λ b. find (has_number number) (cond b (context ∷ filter (is_live moment) contexts) (filter (is_live moment) contexts)) ≡ Some one) live found in
    let tail : live_context number moment contexts ≡ Some one = subst (λ b. cond b (Some context) (find (has_number number) (filter (is_live moment) contexts)) ≡ Some one) other there in
    kept_head moment later number keep context contexts live (kept_live moment later number keep contexts one before rest_rises tail))
    (λ (dead : is_live moment context ≡ false).
    let tail : live_context number moment contexts ≡ Some one = subst (λ b. find (has_number number) (cond b (context ∷ filter (is_live moment) contexts) (filter (is_live moment) contexts)) ≡ Some one) dead found in
    let rest = kept_live moment later number keep contexts one before rest_rises tail in
    rw other rw dead (rw (dead_later moment later context before dead) rest))
    (cases_Bool (is_live moment context)))
    (cases_Bool (eqb context.number number))

-- the same of two lists of which the same are live
pub kept_alike : (moment later number keep : ℕ) (xs ys : List Context) (one : Context) → moment ≤ later → SeenRises xs → SeenRises ys
    → live_context number moment xs ≡ Some one → filter (is_live moment) xs ≡ filter (is_live moment) ys
    → filter (is_live later) (kept moment number keep xs) ≡ filter (is_live later) (kept moment number keep ys)
kept_alike moment later number keep xs ys one before rises rise found same =
    kept_live moment later number keep xs one before rises found
    ∙ ap (λ them. filter (is_live later) (kept moment number keep them)) same
    ∙ sym (kept_live moment later number keep ys one before rise (ap (find (has_number number)) (sym same) ∙ found))

-- ---- closing

-- the contexts that stay in a book at a closing
pub closed_seen : (moment : ℕ) (which : Which) (contexts : List Kept)
    → contexts_seen (filter (is_kept moment which) contexts) ≡ filter (λ (context : Context). not (is_closing moment which context)) (contexts_seen contexts)
closed_seen moment which contexts = sym (filter_map (λ (context : Context). not (is_closing moment which context)) seen contexts)

-- those that are live after a closing are those that were, without the closed ones
pub closed_live : (moment later : ℕ) (which : Which) (contexts : List Context)
    → filter (is_live later) (map (close_one moment which) contexts) ≡ filter (λ (context : Context). not (is_closing moment which context)) (filter (is_live later) contexts)
closed_live moment later which [] = refl
closed_live moment later which (context ∷ contexts) =
    let rest = closed_live moment later which contexts in
    ⊎_elim
    (λ (closing : is_closing moment which context ≡ true). ⊎_elim
    (λ (live : is_live later context ≡ true). rw closing (rw live (rw closing rest)))
    (λ (dead : is_live later context ≡ false). rw closing (rw dead rest))
    (cases_Bool (is_live later context)))
    (λ (stays : is_closing moment which context ≡ false). ⊎_elim
    (λ (live : is_live later context ≡ true). rw stays (rw live (rw stays (ap (λ them. context ∷ them) rest))))
    (λ (dead : is_live later context ≡ false). rw stays (rw dead rest))
    (cases_Bool (is_live later context)))
    (cases_Bool (is_closing moment which context))

-- a closing frees as much of contexts of which the same are live
pub freed_alike : (moment : ℕ) (which : Which) (xs ys : List Context) → filter (is_live moment) xs ≡ filter (is_live moment) ys → freed moment which xs ≡ freed moment which ys
freed_alike moment which xs ys same =
    let f : Context → ℕ = λ context. length context.view.shards in
    ap (sum_by f) (filter_both (is_live moment) (is_named which) xs)
    ∙ ap (λ them. sum_by f (filter (is_named which) them)) same
    ∙ sym (ap (sum_by f) (filter_both (is_live moment) (is_named which) ys))
