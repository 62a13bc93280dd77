-- What one that changes, comes in or goes out leaves of points in time whose numbers rise.
use Rattle.std.proofs.Common.{◌≡◌, ◌≢◌, ℕ, ◌+◌, ◌-◌, ◌<◌, ◌≤◌, max, true, false, cond, eqb, ltb, not, List, [], ◌∷◌, ◌++◌, zero, suc, length, take, drop, set, get_or, All, map, refl, sym, ap, ◌∙◌, ⊎_elim, arith, length-set, get_or-set_same, get_or-set_other}
use Rattle.std.specs.List.{filter, insert, remove}
use Rattle.std.proofs.lemmas.Bool.{cases_eq, cases_lt}
use Rattle.std.proofs.lemmas.Bool.Decides.{nat_tests}
use Rattle.std.proofs.lemmas.List.{get_or-map, get_or_default, length-map, same_lists}
use Rattle.std.proofs.lemmas.List.Edits.{get_or-insert_above, get_or-insert_at, get_or-insert_below, length-insert}
use Rattle.context_book.specs.declared.context.Context.{Context}
use Rattle.context_book.specs.Books.{Book, Rises}
use Rattle.context_book.specs.Calls.{lent_by, touched, with_one, without}
use Rattle.context_book.specs.Places.{HasNumber, IsBorder}
use Rattle.context_book.proofs.Rising.{filter_all, filter_back, filter_front, filter_none}

-- ---- the book

abbrev pub book_of : ℕ → List Context → Book
book_of limit contexts = record { limit = limit; contexts = contexts }

-- a book whose points in time are changed
pub edited : (f : List Context → List Context) (limit : ℕ) (old new : List Context) (book : Book) → book_of limit old ≡ book → new ≡ f old
    → book_of limit new ≡ book_of book.limit (f book.contexts)
edited f limit old new book is changed = ap (book_of limit) changed ∙ ap (λ (it : Book). book_of it.limit (f it.contexts)) is

-- ---- a change at one place

-- a map that changes that of a number alone writes at its place
map_there : (f : Context → Context) (contexts : List Context) (number at : ℕ) → Rises contexts → HasNumber contexts number at
    → ((context : Context) → context.number ≢ number → f context ≡ context)
    → (context : Context) → context ≡ get_or contexts at context → set contexts at (f context) ≡ map f contexts
map_there f contexts number at rises has fixes context is =
    let here : at < length contexts = has.within in
    same_lists (set contexts at (f context)) (map f contexts) (omega (arith, length-set contexts at (f context), length-map contexts f))
    (λ k d within.
    let inside : k < length contexts = omega (arith, length-set contexts at (f context), within) in
    let image : get_or (map f contexts) k d ≡ f (get_or contexts k context) = get_or-map f contexts k context d inside in
    ⊎_elim
    (λ (same : k ≡ at). ap (λ i. get_or (set contexts at (f context)) i d) same
    ∙ get_or-set_same contexts at (f context) d here ∙ ap f is ∙ ap (λ i. f (get_or contexts i context)) (sym same) ∙ sym image)
    (λ (apart : k ≢ at).
    let other : (get_or contexts k d).number ≢ number = λ equal. let mine : (get_or contexts at d).number ≡ number = has.same d in
    ⊎_elim
    (λ (below : k < at). let less = rises k at d below here in omega arith)
    (λ (above : at ≤ k). let more = rises at k d (omega arith) inside in omega arith)
    (cases_lt k at) in
    get_or-set_other contexts at k (f context) d apart ∙ sym (fixes (get_or contexts k d) other)
    ∙ ap f (get_or_default contexts k d context inside) ∙ sym image)
    (cases_eq k at))

-- it keeps the numbers
pub rises_map : (f : Context → Context) (contexts : List Context) → ((context : Context)
    → (f context).number ≡ context.number) → Rises contexts → Rises (map f contexts)
rises_map f [] keeps rises i j d less within = absurd (omega arith)
rises_map f (first ∷ rest) keeps rises i j d less within =
    let contexts = first ∷ rest in
    let inside : j < length contexts = omega (arith, length-map contexts f) in
    let numbers : (get_or contexts i first).number < (get_or contexts j first).number = rises i j first less inside in
    let at_i : (get_or (map f contexts) i d).number ≡ (get_or contexts i first).number =
    ap (λ (it : Context). it.number) (get_or-map f contexts i first d (omega arith)) ∙ keeps (get_or contexts i first) in
    let at_j : (get_or (map f contexts) j d).number ≡ (get_or contexts j first).number =
    ap (λ (it : Context). it.number) (get_or-map f contexts j first d inside) ∙ keeps (get_or contexts j first) in
    omega arith

-- that of the number lives longer
pub kept_there : (contexts : List Context) (number at expiry : ℕ) → Rises contexts → HasNumber contexts number at
    → (context : Context) → context ≡ get_or contexts at context
    → set contexts at (record context { expiry = max context.expiry expiry }) ≡ map (touched number expiry) contexts
kept_there contexts number at expiry rises has context is =
    let mine : context.number ≡ number = ap (λ (it : Context). it.number) is ∙ has.same context in
    let yes_it : eqb context.number number ≡ true = grind arith in
    ap (λ b. set contexts at (cond b (record context { expiry = max context.expiry expiry }) context)) (sym yes_it)
    ∙ map_there (touched number expiry) contexts number at rises has
    (λ other differs. let no_it : eqb other.number number ≡ false = grind arith in
    ap (λ b. cond b (record other { expiry = max other.expiry expiry }) other) no_it)
    context is

-- its owner has lent one pass more
pub lent_there : (contexts : List Context) (number at : ℕ) → Rises contexts → HasNumber contexts number at
    → (context : Context) → context ≡ get_or contexts at context
    → set contexts at (record context { owner = record context.owner { lent = context.owner.lent + 1 } }) ≡ map (lent_by number) contexts
lent_there contexts number at rises has context is =
    let mine : context.number ≡ number = ap (λ (it : Context). it.number) is ∙ has.same context in
    let yes_it : eqb context.number number ≡ true = grind arith in
    ap (λ b. set contexts at (cond b (record context { owner = record context.owner { lent = context.owner.lent + 1 } }) context)) (sym yes_it)
    ∙ map_there (lent_by number) contexts number at rises has
    (λ other differs. let no_it : eqb other.number number ≡ false = grind arith in
    ap (λ b. cond b (record other { owner = record other.owner { lent = other.owner.lent + 1 } }) other) no_it)
    context is

pub kept_number : (number expiry : ℕ) (context : Context) → (touched number expiry context).number ≡ context.number
kept_number number expiry context = elim (eqb context.number number) as
    (λ b. (cond b (record context { expiry = max context.expiry expiry }) context).number
    ≡ context.number) [ true ↦ refl | false ↦ refl ]

pub lent_number : (number : ℕ) (context : Context) → (lent_by number context).number ≡ context.number
lent_number number context =
    elim (eqb context.number number) as
    (λ b. (cond b (record context { owner = record context.owner { lent = context.owner.lent + 1 } }) context).number
    ≡ context.number) [ true ↦ refl | false ↦ refl ]

-- ---- one that goes out

pub removed : (contexts : List Context) (number at : ℕ) → Rises contexts → HasNumber contexts number at
    → remove contexts at ≡ without number contexts
removed [] number at rises has = absurd (let within : at < 0 = has.within in omega arith)
removed (context ∷ contexts) number zero rises has =
    let mine : context.number ≡ number = has.same context in
    let yes_it : eqb context.number number ≡ true = grind arith in
    let others : All (λ (it : Context). not (eqb it.number number) ≡ true) contexts =
    λ k d within. let less : context.number < (get_or contexts k d).number = rises zero (suc k) d (omega arith) (omega arith) in
    let no_it : eqb (get_or contexts k d).number number ≡ false = grind arith in ap not no_it in
    rw yes_it (sym (filter_all (λ (it : Context). not (eqb it.number number)) contexts others))
removed (context ∷ contexts) number (suc at) rises has =
    let within : at < length contexts = let it : suc at < length (context ∷ contexts) = has.within in omega arith in
    let mine : (get_or contexts at context).number ≡ number = has.same context in
    let less : context.number < (get_or contexts at context).number = rises zero (suc at) context (omega arith) (omega arith) in
    let no_it : eqb context.number number ≡ false = grind arith in
    let later : Rises contexts = λ i j d below inside. rises (suc i) (suc j) d (omega arith) (omega arith) in
    rw no_it (ap (λ xs. context ∷ xs) (removed contexts number at later (record { within = within; same = has.same })))

-- ---- one that comes in

-- after the lower numbers and before the higher ones
pub inserted : (contexts : List Context) (new : Context) (at : ℕ) → All (λ (it : Context). it.number ≢ new.number) contexts
    → IsBorder contexts new.number at
    → insert contexts at new ≡ with_one new contexts
inserted contexts new at fresh border =
    let lower : filter (λ (it : Context). ltb it.number new.number) contexts ≡ take at contexts =
    filter_front (λ (it : Context). ltb it.number new.number) contexts at border.within
    (λ k d low high. let less = border.below k d high in grind (arith, nat_tests))
    (λ k d low high. let more = border.above k d low high in grind (arith, nat_tests)) in
    let higher : filter (λ (it : Context). ltb new.number it.number) contexts ≡ drop at contexts =
    filter_back (λ (it : Context). ltb new.number it.number) contexts at border.within
    (λ k d low high. let less = border.below k d high in grind (arith, nat_tests))
    (λ k d low high. let more = border.above k d low high in let differs = fresh k d high in grind (arith, nat_tests)) in
    ap (λ xs. xs ++ new ∷ drop at contexts) (sym lower)
    ∙ ap (λ xs. filter (λ (it : Context). ltb it.number new.number) contexts ++ new ∷ xs) (sym higher)

-- the numbers still rise
pub rises_inserted : (contexts : List Context) (new : Context) (at : ℕ) → Rises contexts
    → All (λ (it : Context). it.number ≢ new.number) contexts → IsBorder contexts new.number at
    → Rises (insert contexts at new)
rises_inserted contexts new at rises fresh border i j d less within =
    let long : length (insert contexts at new) ≡ length contexts + 1 = length-insert contexts at new border.within in
    let number : ℕ → ℕ = λ k. (get_or (insert contexts at new) k d).number in
    let there : number at ≡ new.number = ap (λ (it : Context). it.number) (get_or-insert_at contexts at new d border.within) in
    let before : (k : ℕ) → k < at → number k
    ≡ (get_or contexts k d).number = λ k h. ap
    (λ (it : Context). it.number) (get_or-insert_below contexts at new d k h border.within) in
    let behind : (k : ℕ) → at < k → number k ≡ (get_or contexts (k - 1) d).number =
    λ k h. ap number (let e : k ≡ k - 1 + 1 = omega arith in e)
    ∙ ap (λ (it : Context). it.number) (get_or-insert_above contexts at new d (k - 1) (omega arith) border.within) in
    let low : (k : ℕ) → k < at → number k < new.number = λ k h. let e = before k h in let l = border.below k d h in omega arith in
    let high : (k : ℕ) → at < k → k < length contexts + 1 → new.number < number k =
    λ k h inside. let e = behind k h in let l = border.above (k - 1) d (omega arith) (omega arith) in
    let n = fresh (k - 1) d (omega arith) in omega arith in
    ⊎_elim
    (λ (below : j < at). let a = before i (omega arith) in let b = before j below in
    let l = rises i j d less (omega (arith, border.within)) in omega arith)
    (λ (above : at ≤ j). ⊎_elim
    (λ (first : i < at). let a = low i first in
    ⊎_elim (λ (same : at ≡ j). let e = ap number same in omega arith)
    (λ (apart : at ≢ j). let b = high j (omega arith) (omega arith) in omega arith) (cases_eq at j))
    (λ (later : at ≤ i). let b = high j (omega arith) (omega arith) in
    ⊎_elim (λ (same : at ≡ i). let e = ap number same in omega arith)
    (λ (apart : at ≢ i). let a = behind i (omega arith) in let c = behind j (omega arith) in
    let l = rises (i - 1) (j - 1) d (omega arith) (omega arith) in omega arith) (cases_eq at i))
    (cases_lt i at))
    (cases_lt j at)

-- where all others have lower numbers it is the last
pub with_last : (contexts : List Context) (new : Context) → All (λ (it : Context). it.number < new.number) contexts
    → with_one new contexts ≡ contexts ++ new ∷ []
with_last contexts new lower =
    let front : filter (λ (it : Context). ltb it.number new.number) contexts ≡ contexts =
    filter_all (λ (it : Context). ltb it.number new.number) contexts
    (λ k d within. let less = lower k d within in grind (arith, nat_tests)) in
    let back : filter (λ (it : Context). ltb new.number it.number) contexts ≡ [] =
    filter_none (λ (it : Context). ltb new.number it.number) contexts
    (λ k d within. let less = lower k d within in grind (arith, nat_tests)) in
    ap (λ xs. xs ++ new ∷ filter (λ (it : Context). ltb new.number it.number) contexts) front ∙ ap (λ xs. contexts ++ new ∷ xs) back
