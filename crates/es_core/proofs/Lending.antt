-- How many passes the owners of a book have lent.
use Rattle.std.proofs.Common.{◌≡◌, ◌≢◌, ℕ, ◌+◌, ◌<◌, ◌≤◌, Bool, true, false, cond, eqb, max, List, [], ◌∷◌, zero, suc, get_or, Option, Some, None, IfSome, MatchOption, Result, Ok, Err, OnOk, OnErr, All, map, refl, sym, ap, subst, ◌∙◌, ⊎_elim, arith}
use Rattle.std.specs.List.{filter, find}
use Rattle.std.proofs.lemmas.Bool.{cases_Bool}
use Rattle.std.proofs.lemmas.List.Elements.{All-cons, All-filter, All-head, All-map, All-nil, All-push, All-tail, All-weaker}
use Rattle.std.proofs.lemmas.Option.{none-some, same_Some}
use Rattle.es_types.specs.declared.limits.TheConstants.{MOST_ENTRIES}
use Rattle.context_book.specs.declared.context.Context.{Context}
use Rattle.context_book.specs.Books.{Book, CanLend, Rises, is_kept, live_one, lives}
use Rattle.context_book.specs.Calls.{lent_by, touched}
use Rattle.list_machine.specs.declared.event.Event.{Event}
use Rattle.list_machine.specs.declared.event.Event.TheVariants.{Close, Create, OpenPit, Publish, Quiet, Seal, Search, Write}
use Rattle.list_machine.specs.declared.event.Reply.{Reply}
use Rattle.list_machine.specs.declared.event.Reply.TheVariants.{NoIndex, Opened, Spent, TooMany}
use Rattle.list_machine.specs.declared.event.Target.TheVariants.{Index as IndexTarget, Pit}
use Rattle.list_machine.specs.State.{Index}
use Rattle.list_machine.specs.Views.{View}
use Rattle.es_core.specs.declared.turned.Chore.{Chore}
use Rattle.es_core.specs.declared.turned.Chore.TheVariants.{Reap, NoteEnd}
use Rattle.es_core.specs.declared.turned.Plan.TheVariants.{Page}
use Rattle.es_core.specs.declared.turned.Turned.{Turned}
use Rattle.es_core.specs.declared.turned.Turned.TheVariants.{Now, Later}
use Rattle.es_core.specs.Contexts.{AllCanLend, AllLent, LeavesOpened, left_by}
use Rattle.es_core.specs.Plans.{HandsOut, kept_on}

abbrev lent : ℕ → Context → Type 0
lent n context = context.owner.lent ≤ n

-- the owners of the new contexts have lent one pass more at most
abbrev pub Lends : List Context → List Context → Type 0
Lends old new = (n : ℕ) → AllLent n old → AllLent (n + 1) new

-- a greater number bounds them too
lent_more : (n most : ℕ) (contexts : List Context) → n ≤ most → AllLent n contexts → AllLent most contexts
lent_more n most contexts less all = All-weaker (lent n) (lent most) (λ context l. omega (arith, l, less)) contexts all

-- ---- where nothing is lent

lends_same : (old new : List Context) → new ≡ old → Lends old new
lends_same old new same n all = subst (AllLent (n + 1)) (sym same) (lent_more n (n + 1) old (omega arith) all)

-- what holds of all contexts holds of those after a chore
left_all : (P : Context → Type 0) (chore : Chore) (moment : ℕ) (contexts : List Context) → All P contexts → All P (left_by chore moment contexts)
left_all P Reap moment contexts all = All-filter (lives moment) P contexts all
left_all P (NoteEnd number end) moment contexts all = all

pub left_numbers : (next : ℕ) (chore : Chore) (moment : ℕ) (contexts : List Context) → All (λ (it : Context). it.number < next) contexts
    → All (λ (it : Context). it.number < next) (left_by chore moment contexts)
left_numbers next chore moment contexts all = left_all (λ (it : Context). it.number < next) chore moment contexts all

pub left_lent : (n : ℕ) (chore : Chore) (moment : ℕ) (contexts : List Context) → AllLent n contexts → AllLent n (left_by chore moment contexts)
left_lent n chore moment contexts all = left_all (lent n) chore moment contexts all

pub lends_left : (chore : Chore) (moment : ℕ) (contexts : List Context) → Lends contexts (left_by chore moment contexts)
lends_left chore moment contexts n all = lent_more n (n + 1) (left_by chore moment contexts) (omega arith) (left_lent n chore moment contexts all)

-- where a call takes some out of a book
pub lent_parted : (n : ℕ) (p : Context → Bool) (old new : Book) {A E : Type 0} (r : Result A E) → OnOk r (new ≡ record old { contexts = filter p old.contexts }) → OnErr r (new ≡ old)
    → AllLent n old.contexts → AllLent n new.contexts
lent_parted n p old new (Ok a) is same all = subst (λ (it : Book). AllLent n it.contexts) (sym is) (All-filter p (lent n) old.contexts all)
lent_parted n p old new (Err e) is same all = subst (λ (it : Book). AllLent n it.contexts) (sym same) all

-- the owner of a new one has lent nothing
pub lent_opened : (n : ℕ) (view : Option View) (expiry : ℕ) (old new : List Context) (reply : Reply) → LeavesOpened view expiry old new reply → AllLent n old → AllLent n new
lent_opened n view expiry old new (Opened number) is all =
    subst (AllLent n) (sym is.added)
    (All-push (lent n) old (record { number = number; owner = is.owner; expiry = expiry }) all (omega (arith, is.unlent)))
lent_opened n view expiry old new Spent is all = subst (AllLent n) (sym is) all
lent_opened n view expiry old new NoIndex is all = subst (AllLent n) (sym is) all
lent_opened n view expiry old new (TooMany limit) is all = subst (AllLent n) (sym is) all
lent_opened n view expiry old new other is all = absurd is

-- the one that is kept longer has lent as many
pub lent_kept : (n number till : ℕ) (contexts : List Context) → AllLent n contexts → AllLent n (map (touched number till) contexts)
lent_kept n number till contexts all =
    All-map (lent n) (touched number till) contexts
    (All-weaker (lent n) (λ (context : Context). (touched number till context).owner.lent ≤ n) (λ context is. one context is) contexts all)
  where
    one : (context : Context) → context.owner.lent ≤ n → (touched number till context).owner.lent ≤ n
    one context is = elim (eqb context.number number) as (λ b. (cond b (record context { expiry = max context.expiry till }) context).owner.lent ≤ n) [ true ↦ is | false ↦ is ]

lent_on : (n number moment : ℕ) (keep : Option ℕ) (contexts : List Context) → AllLent n contexts → AllLent n (kept_on number moment keep contexts)
lent_on n number moment None contexts all = all
lent_on n number moment (Some keep) contexts all = lent_kept n number (moment + keep) contexts all

-- ---- where one lends

lends_by : (number : ℕ) (contexts : List Context) → Lends contexts (map (lent_by number) contexts)
lends_by number contexts n all =
    All-map (lent (n + 1)) (lent_by number) contexts
    (All-weaker (lent n) (λ (context : Context). (lent_by number context).owner.lent ≤ n + 1) (λ context is. one context is) contexts all)
  where
    one : (context : Context) → context.owner.lent ≤ n → (lent_by number context).owner.lent ≤ n + 1
    one context is =
        elim (eqb context.number number) as (λ b. (cond b (record context { owner = record context.owner { lent = context.owner.lent + 1 } }) context).owner.lent ≤ n + 1)
        [ true ↦ omega (arith, is) | false ↦ omega (arith, is) ]

-- ---- turns

-- whatever the event, the owners have lent one pass more at most
pub hands_lends : (event : Event) (moment : ℕ) (indexes : List Index) (old new : List Context) (turned : Turned) → HandsOut event moment indexes old new turned → Lends old new
hands_lends (Create index shards mapping) moment indexes old new turned is = lends_same old new is.1
hands_lends (Write index id change) moment indexes old new turned is = lends_same old new is.1
hands_lends (Seal index) moment indexes old new turned is = lends_same old new is.1
hands_lends (Publish index shard upto) moment indexes old new turned is = lends_same old new is.1
hands_lends (OpenPit index keep) moment indexes old new (Now reply) is =
    λ n all. lent_more n (n + 1) new (omega arith) (lent_opened n _ (moment + keep) old new reply is all)
hands_lends (OpenPit index keep) moment indexes old new (Later plan) is = absurd is
hands_lends (Search (IndexTarget index) request) moment indexes old new turned is = lends_same old new is.1.1
hands_lends (Search (Pit number keep) request) moment indexes old new (Now reply) is = lends_same old new is.1
hands_lends (Search (Pit number keep) request) moment indexes old new (Later (Page pass asked pages end scroll)) is =
    λ n all. subst (AllLent (n + 1)) (sym is.1.1) (lent_on (n + 1) number moment keep (map (lent_by number) old) (lends_by number old n all))
hands_lends (Close which) moment indexes old new turned is =
    λ n all. subst (AllLent (n + 1)) (sym is.1) (lent_more n (n + 1) (filter (is_kept moment which) old) (omega arith) (All-filter (is_kept moment which) (lent n) old all))
hands_lends Quiet moment indexes old new turned is = lends_same old new is.1

-- after a history of so few entries each may lend another
pub lent_few : (n : ℕ) (contexts : List Context) → n < MOST_ENTRIES → AllLent n contexts → AllCanLend contexts
lent_few n contexts short all = All-weaker (lent n) (λ (context : Context). context.owner.lent < MOST_ENTRIES) (λ context l. omega (arith, l, short)) contexts all

-- and an entry later they have lent at most as many as there are entries
pub lent_next : (n next : ℕ) (old new : List Context) → next ≡ n + 1 → Lends old new → AllLent n old → AllLent next new
lent_next n next old new is lends all = subst (λ (m : ℕ). AllLent m new) (sym is) (lends n all)

-- ---- the one that lends

later_rises : (context : Context) (contexts : List Context) → Rises (context ∷ contexts) → Rises contexts
later_rises context contexts rises = λ i j d less within. rises (suc i) (suc j) d (omega arith) (omega arith)

-- none of these has the number
abbrev AreOthers : ℕ → List Context → Type 0
AreOthers number contexts = All (λ (it : Context). it.number ≢ number) contexts

others_later : (number : ℕ) (context : Context) (contexts : List Context) → Rises (context ∷ contexts) → context.number ≡ number → AreOthers number contexts
others_later number context contexts rises is = λ k d within equal. let less = rises zero (suc k) d (omega arith) (omega arith) in omega arith

no_other_lives : (number moment : ℕ) (contexts : List Context) → AreOthers number contexts → live_one number moment contexts ≡ None
no_other_lives number moment [] others = refl
no_other_lives number moment (context ∷ contexts) others =
    let differs : context.number ≢ number = All-head (λ (it : Context). it.number ≢ number) context contexts others in
    let rest = no_other_lives number moment contexts (All-tail (λ (it : Context). it.number ≢ number) context contexts others) in
    let no : eqb context.number number ≡ false = grind arith in
    elim (lives moment context) as (λ b. find (λ (it : Context). eqb it.number number) (cond b (context ∷ filter (lives moment) contexts) (filter (lives moment) contexts)) ≡ None)
    [ true ↦ rw no rest | false ↦ rest ]

-- the live one of a number is the only one of it
only_one : (number moment : ℕ) (contexts : List Context) (one : Context) → Rises contexts → live_one number moment contexts ≡ Some one
    → All (λ (it : Context). it.number ≡ number → it ≡ one) contexts
only_one number moment [] one rises found = All-nil (λ (it : Context). it.number ≡ number → it ≡ one)
only_one number moment (context ∷ contexts) one rises found =
    let P : Context → Type 0 = λ it. it.number ≡ number → it ≡ one in
    let later = later_rises context contexts rises in
    ⊎_elim
    (λ (same : eqb context.number number ≡ true).
    let is : context.number ≡ number = grind arith in
    let others = others_later number context contexts rises is in
    All-cons P context contexts
    (λ _. ⊎_elim
    (λ (live : lives moment context ≡ true).
    let first : find (λ (it : Context). eqb it.number number) (context ∷ filter (lives moment) contexts) ≡ Some one =
    subst (λ b. find (λ (it : Context). eqb it.number number) (cond b (context ∷ filter (lives moment) contexts) (filter (lives moment) contexts)) ≡ Some one) live found in
    same_Some context one (subst (λ b. cond b (Some context) (find (λ (it : Context). eqb it.number number) (filter (lives moment) contexts)) ≡ Some one) same first))
    (λ (dead : lives moment context ≡ false).
    let none : live_one number moment contexts ≡ Some one =
    subst (λ b. find (λ (it : Context). eqb it.number number) (cond b (context ∷ filter (lives moment) contexts) (filter (lives moment) contexts)) ≡ Some one) dead found in
    absurd (none-some one (sym (no_other_lives number moment contexts others) ∙ none)))
    (cases_Bool (lives moment context)))
    (All-weaker (λ (it : Context). it.number ≢ number) P (λ it other equal. absurd (other equal)) contexts others))
    (λ (other : eqb context.number number ≡ false).
    let differs : context.number ≢ number = grind arith in
    let there : live_one number moment contexts ≡ Some one =
    elim (lives moment context) as (λ b. find (λ (it : Context). eqb it.number number) (cond b (context ∷ filter (lives moment) contexts) (filter (lives moment) contexts)) ≡ Some one → live_one number moment contexts ≡ Some one)
    [ true ↦ λ is. subst (λ b. cond b (Some context) (find (λ (it : Context). eqb it.number number) (filter (lives moment) contexts)) ≡ Some one) other is | false ↦ λ is. is ] found in
    All-cons P context contexts (λ equal. absurd (differs equal)) (only_one number moment contexts one later there))
    (cases_Bool (eqb context.number number))

-- one that hasn't lent as many as it may lends one more
few_lent : (number moment : ℕ) (contexts : List Context) (one : Context) → Rises contexts → live_one number moment contexts ≡ Some one
    → one.owner.lent < MOST_ENTRIES → AllLent MOST_ENTRIES contexts → AllLent MOST_ENTRIES (map (lent_by number) contexts)
few_lent number moment contexts one rises found room all =
    let only = only_one number moment contexts one rises found in
    let most : ℕ = MOST_ENTRIES in
    All-map (lent most) (lent_by number) contexts
    (λ k d within.
    let it : Context = get_or contexts k d in
    let here : it.owner.lent ≤ most = all k d within in
    ⊎_elim
    (λ (same : eqb it.number number ≡ true).
    let is : it.number ≡ number = grind arith in
    let equal : it.owner.lent ≡ one.owner.lent = ap (λ (c : Context). c.owner.lent) (only k d within is) in
    rw same (omega (arith, equal, room)))
    (λ (other : eqb it.number number ≡ false). rw other here)
    (cases_Bool (eqb it.number number)))

few_room : (number moment : ℕ) (contexts : List Context) (o : Option Context) → Rises contexts → live_one number moment contexts ≡ o
    → MatchOption o ⊥ (λ (context : Context). context.owner.lent < MOST_ENTRIES) → AllLent MOST_ENTRIES contexts → AllLent MOST_ENTRIES (map (lent_by number) contexts)
few_room number moment contexts None rises is room all = absurd room
few_room number moment contexts (Some one) rises is room all = few_lent number moment contexts one rises is room all

-- whatever a book's lending answers, none has lent more than one may
pub few_book : (number moment : ℕ) (old new : Book) {A E : Type 0} (r : Result A E) → Rises old.contexts
    → MatchOption (live_one number moment old.contexts) ⊥ (λ (context : Context). context.owner.lent < MOST_ENTRIES)
    → OnOk r (new ≡ record old { contexts = map (lent_by number) old.contexts }) → OnErr r (new ≡ old)
    → AllLent MOST_ENTRIES old.contexts → AllLent MOST_ENTRIES new.contexts
few_book number moment old new (Ok a) rises room is same all =
    subst (λ (it : Book). AllLent MOST_ENTRIES it.contexts) (sym is) (few_room number moment old.contexts (live_one number moment old.contexts) rises refl room all)
few_book number moment old new (Err e) rises room is same all = subst (λ (it : Book). AllLent MOST_ENTRIES it.contexts) (sym same) all

-- ---- who may lend

-- a context that is live may, where that is known of it
pub can_lend : (o : Option Context) → MatchOption o ⊥ (λ (context : Context). context.owner.lent < MOST_ENTRIES)
    → IfSome o (λ (context : Context). context.owner.lent < MOST_ENTRIES)
can_lend None room = tt
can_lend (Some context) room = room

pub one_can : (number moment : ℕ) (contexts : List Context) (one : Context) → CanLend number moment contexts → live_one number moment contexts ≡ Some one
    → one.owner.lent < MOST_ENTRIES
one_can number moment contexts one can is = subst (λ (o : Option Context). IfSome o (λ (context : Context). context.owner.lent < MOST_ENTRIES)) is can

-- where all may, the live one of a number may
found_can : (p : Context → Bool) (contexts : List Context) → AllCanLend contexts → IfSome (find p contexts) (λ (context : Context). context.owner.lent < MOST_ENTRIES)
found_can p [] all = tt
found_can p (context ∷ contexts) all =
    let P : Context → Type 0 = λ it. it.owner.lent < MOST_ENTRIES in
    elim (p context) as (λ b. IfSome (cond b (Some context) (find p contexts)) P)
    [ true ↦ All-head P context contexts all | false ↦ found_can p contexts (All-tail P context contexts all) ]

pub all_can : (number moment : ℕ) (contexts : List Context) → AllCanLend contexts → CanLend number moment contexts
all_can number moment contexts all =
    found_can (λ (context : Context). eqb context.number number) (filter (lives moment) contexts)
    (All-filter (lives moment) (λ (context : Context). context.owner.lent < MOST_ENTRIES) contexts all)
