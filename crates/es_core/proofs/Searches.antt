-- What a search of a point in time makes of the contexts of a book.
use Rattle.std.proofs.Common.{◌≡◌, ℕ, ◌+◌, Bool, true, false, cond, eqb, max, ◌<◌, List, [], ◌∷◌, Option, Some, None, Result, Ok, Err, IsErr, OnOk, OnErr, ◌↔◌, ◌≢◌, All, subst, length, map, get_or, refl, sym, ap, ◌∙◌, arith}
use Rattle.std.specs.List.{filter, sum_by}
use Rattle.std.specs.Option.{option_map}
use Rattle.std.proofs.lemmas.List.{get_or-map, length-map}
use Rattle.std.proofs.lemmas.List.Elements.{All-filter, All-map, All-weaker}
use Rattle.std.proofs.lemmas.List.Sums.{sum_by-cons}
use Rattle.std.proofs.lemmas.Option.{none-some}
use Rattle.context_book.specs.declared.context.Context.{Context as Kept}
use Rattle.context_book.specs.Books.{Book, Rises, is_closed, live_one, seen}
use Rattle.context_book.specs.Calls.{lent_by, touched}
use Rattle.list_machine.specs.declared.event.Which.{Which}
use Rattle.list_machine.specs.declared.page.request.SearchRequest.{SearchRequest}
use Rattle.list_machine.specs.State.{Context}
use Rattle.list_machine.specs.Step.{freed, is_closing, is_fit, keep_one}
use Rattle.es_core.specs.Contexts.{contexts_seen, is_answered, kept_on_answer, live_context}
use Rattle.es_core.proofs.ContextLemmas.{SeenRises, filter_map, live_seen}

-- the live one, as the machine has it
pub one_seen : (number moment : ℕ) (contexts : List Kept) (one : Kept) → live_one number moment contexts ≡ Some one
    → live_context number moment (contexts_seen contexts) ≡ Some (seen one)
one_seen number moment contexts one is = live_seen number moment contexts ∙ ap (option_map seen) is

pub none_seen : (number moment : ℕ) (contexts : List Kept) → live_one number moment contexts ≡ None → live_context number moment (contexts_seen contexts) ≡ None
none_seen number moment contexts is = live_seen number moment contexts ∙ ap (option_map seen) is

-- where there is none nothing is kept longer
pub missed : (moment number : ℕ) (keep : Option ℕ) (request : SearchRequest) (o : Option Context) (contexts : List Context) → o ≡ None
    → contexts ≡ kept_on_answer moment number keep (is_answered request o) contexts
missed moment number None request o contexts none = refl
missed moment number (Some keep) request o contexts none = rw none refl

-- what is kept longer where a search of the live one fits, or doesn't
pub kept_after : (moment number : ℕ) (keep : Option ℕ) (request : SearchRequest) (one : Kept) (answered : Bool) (o : Option Context) (old new : List Context)
    → o ≡ Some (seen one) → is_fit one.owner.body request ≡ answered
    → new ≡ kept_on_answer moment number keep answered old → new ≡ kept_on_answer moment number keep (is_answered request o) old
kept_after moment number keep request one answered o old new some says now =
    now ∙ ap (λ (b : Bool). kept_on_answer moment number keep b old) (sym says ∙ sym (ap (is_answered request) some))

-- where no search is answered nothing is kept longer
pub kept_not : (moment number : ℕ) (keep : Option ℕ) (contexts : List Context) → contexts ≡ kept_on_answer moment number keep false contexts
kept_not moment number None contexts = refl
kept_not moment number (Some keep) contexts = refl

-- contexts that are kept longer, as the machine has them
pub kept_seen : (moment number keep : ℕ) (contexts : List Kept) → contexts_seen (map (touched number (moment + keep)) contexts) ≡ map (keep_one moment number keep) (contexts_seen contexts)
kept_seen moment number keep [] = refl
kept_seen moment number keep (context ∷ contexts) =
    let rest = kept_seen moment number keep contexts in
    elim (eqb context.number number) as (λ b. seen (cond b (record context { expiry = max context.expiry (moment + keep) }) context) ∷ contexts_seen (map (touched number (moment + keep)) contexts)
    ≡ cond b (record (seen context) { expiry = max context.expiry (moment + keep) }) (seen context) ∷ map (keep_one moment number keep) (contexts_seen contexts))
    [ true ↦ ap (λ them. seen (record context { expiry = max context.expiry (moment + keep) }) ∷ them) rest | false ↦ ap (λ them. seen context ∷ them) rest ]

-- a live one is touched
pub touched_book : (number moment till keep : ℕ) (old new : Book) {E : Type 0} (r : Result (Unit {0}) E) → till ≡ moment + keep
    → (IsErr r ↔ (live_one number moment old.contexts ≡ None)) → live_one number moment old.contexts ≢ None
    → OnOk r (new ≡ record old { contexts = map (touched number till) old.contexts }) → new ≡ record old { contexts = map (touched number (moment + keep)) old.contexts }
touched_book number moment till keep old new (Ok done) is missing live made =
    let with_till : ℕ → Book = λ n. record old { contexts = map (touched number n) old.contexts } in
    made ∙ ap with_till is
touched_book number moment till keep old new (Err e) is missing live made = absurd (live (missing.0 refl))

-- a sum over what a function makes
sum_map : {A B : Type 0} (f : B → ℕ) (h : A → B) (xs : List A) → sum_by f (map h xs) ≡ sum_by (λ x. f (h x)) xs
sum_map f h [] = refl
sum_map f h (x ∷ xs) = sum_by-cons f (h x) (map h xs) ∙ ap (λ n. f (h x) + n) (sum_map f h xs) ∙ sym (sum_by-cons (λ x. f (h x)) x xs)

-- the shards of the owners that a closing hands out are those that it frees
pub freed_seen : (moment : ℕ) (which : Which) (contexts : List Kept)
    → sum_by (λ owner. length owner.body.shards) (map (λ (context : Kept). context.owner) (filter (is_closed moment which) contexts))
    ≡ freed moment which (contexts_seen contexts)
freed_seen moment which contexts =
    let gone = filter (is_closed moment which) contexts in
    sum_map (λ owner. length owner.body.shards) (λ (context : Kept). context.owner) gone
    ∙ sym (sum_map (λ (context : Context). length context.view.shards) seen gone)
    ∙ sym (ap (sum_by (λ (context : Context). length context.view.shards)) (filter_map (is_closing moment which) seen contexts))

-- the numbers of what is seen rise too
pub seen_rises : (contexts : List Kept) → Rises contexts → SeenRises (contexts_seen contexts)
seen_rises [] rises i j d less within = absurd (omega arith)
seen_rises (first ∷ rest) rises i j d less within =
    let contexts = first ∷ rest in
    let inside : j < length contexts = omega (arith, length-map contexts seen) in
    let before : i < length contexts = omega arith in
    let numbers : (get_or contexts i first).number < (get_or contexts j first).number = rises i j first less inside in
    let at_i : (get_or (contexts_seen contexts) i d).number ≡ (get_or contexts i first).number = ap (λ (it : Context). it.number) (get_or-map seen contexts i first d before) in
    let at_j : (get_or (contexts_seen contexts) j d).number ≡ (get_or contexts j first).number = ap (λ (it : Context). it.number) (get_or-map seen contexts j first d inside) in
    omega arith

-- what the machine has of them stays where one has lent a pass more
pub lent_seen : (number : ℕ) (contexts : List Kept) → contexts_seen (map (lent_by number) contexts) ≡ contexts_seen contexts
lent_seen number [] = refl
lent_seen number (context ∷ contexts) =
    let rest = lent_seen number contexts in
    elim (eqb context.number number) as (λ b. seen (cond b (record context { owner = record context.owner { lent = context.owner.lent + 1 } }) context) ∷ contexts_seen (map (lent_by number) contexts)
    ≡ seen context ∷ contexts_seen contexts)
    [ true ↦ ap (λ them. seen context ∷ them) rest | false ↦ ap (λ them. seen context ∷ them) rest ]

-- whatever a book's lending answers
pub lent_book_seen : (number : ℕ) (old new : Book) {A E : Type 0} (r : Result A E) → OnOk r (new ≡ record old { contexts = map (lent_by number) old.contexts }) → OnErr r (new ≡ old)
    → contexts_seen new.contexts ≡ contexts_seen old.contexts
lent_book_seen number old new (Ok a) is same = ap (λ (it : Book). contexts_seen it.contexts) is ∙ lent_seen number old.contexts
lent_book_seen number old new (Err e) is same = ap (λ (it : Book). contexts_seen it.contexts) same

-- so the live one is there still
pub still_live : (number moment : ℕ) (old new : List Kept) (one : Kept) → contexts_seen new ≡ contexts_seen old → live_one number moment old ≡ Some one
    → live_one number moment new ≢ None
still_live number moment old new one same is none =
    none-some (seen one) (sym (none_seen number moment new none) ∙ ap (live_context number moment) same ∙ one_seen number moment old one is)

-- the numbers stay where one has lent a pass more
pub lent_numbers : (next number : ℕ) (contexts : List Kept) → All (λ (context : Kept). context.number < next) contexts
    → All (λ (context : Kept). context.number < next) (map (lent_by number) contexts)
lent_numbers next number contexts below =
    All-map (λ (context : Kept). context.number < next) (lent_by number) contexts
    (All-weaker (λ (context : Kept). context.number < next) (λ (context : Kept). (lent_by number context).number < next) (λ context is. one context is) contexts below)
  where
    one : (context : Kept) → context.number < next → (lent_by number context).number < next
    one context is =
        elim (eqb context.number number) as (λ b. (cond b (record context { owner = record context.owner { lent = context.owner.lent + 1 } }) context).number < next) [ true ↦ is | false ↦ is ]

pub lent_book_numbers : (next number : ℕ) (old new : Book) {A E : Type 0} (r : Result A E) → OnOk r (new ≡ record old { contexts = map (lent_by number) old.contexts }) → OnErr r (new ≡ old)
    → All (λ (context : Kept). context.number < next) old.contexts → All (λ (context : Kept). context.number < next) new.contexts
lent_book_numbers next number old new (Ok a) is same below =
    subst (λ (it : Book). All (λ (context : Kept). context.number < next) it.contexts) (sym is) (lent_numbers next number old.contexts below)
lent_book_numbers next number old new (Err e) is same below = subst (λ (it : Book). All (λ (context : Kept). context.number < next) it.contexts) (sym same) below

-- the numbers stay where one is kept longer
pub kept_numbers : (next number till : ℕ) (contexts : List Kept) → All (λ (context : Kept). context.number < next) contexts
    → All (λ (context : Kept). context.number < next) (map (touched number till) contexts)
kept_numbers next number till contexts below =
    All-map (λ (context : Kept). context.number < next) (touched number till) contexts
    (All-weaker (λ (context : Kept). context.number < next) (λ (context : Kept). (touched number till context).number < next) (λ context is. kept_number context is) contexts below)
  where
    kept_number : (context : Kept) → context.number < next → (touched number till context).number < next
    kept_number context is = elim (eqb context.number number) as (λ b. (cond b (record context { expiry = max context.expiry till }) context).number < next) [ true ↦ is | false ↦ is ]

-- the numbers stay below where a book gets some of its contexts, or keeps all
pub part_numbers : (next : ℕ) (p : Kept → Bool) (old new : Book) {A E : Type 0} (r : Result A E)
    → OnOk r (new ≡ record old { contexts = filter p old.contexts }) → OnErr r (new ≡ old)
    → All (λ (context : Kept). context.number < next) old.contexts → All (λ (context : Kept). context.number < next) new.contexts
part_numbers next p old new (Ok n) is same below =
    subst (λ (book : Book). All (λ (context : Kept). context.number < next) book.contexts) (sym is) (All-filter p (λ (context : Kept). context.number < next) old.contexts below)
part_numbers next p old new (Err e) is same below = subst (λ (book : Book). All (λ (context : Kept). context.number < next) book.contexts) (sym same) below
