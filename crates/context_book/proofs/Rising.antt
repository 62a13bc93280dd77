-- Points in time whose numbers rise: where a number stands, and the live one of it.
use Rattle.std.proofs.Common.{◌≡◌, ◌≢◌, ℕ, ◌+◌, ◌<◌, ◌≤◌, Bool, true, false, cond, eqb, ltb, List, [], ◌∷◌, ◌++◌, zero, suc, length, take, drop, get_or, Option, Some, None, Result, Ok, Err, All, refl, sym, ap, subst, ◌∙◌, ⊎_elim, arith, take-append-drop, append-nil, length-take, length-drop, get_or-take, get_or-drop}
use Rattle.std.specs.List.{AllWithin, find, filter, slice_get}
use Rattle.std.specs.List.Sorted.{IsSearchInRange, IsBinarySearchResult, IsNonDecreasingBy}
use Rattle.std.specs.Result.{result_ok}
use Rattle.std.specs.Ordering.{nat_cmp, ordering_index}
use Rattle.std.proofs.lemmas.Bool.{cases_Bool, cases_lt}
use Rattle.std.proofs.lemmas.Bool.Decides.{nat_tests}
use Rattle.std.proofs.lemmas.Cmp.{ranked}
use Rattle.std.proofs.lemmas.List.Elements.{All-head, All-tail, filter-append}
use Rattle.std.proofs.lemmas.List.Folds.{find_at}
use Rattle.std.proofs.lemmas.List.Sums.{position_or_len_is}
use Rattle.std.proofs.lemmas.Option.{slice_get-get_or}
use Rattle.context_book.specs.declared.context.Context.{Context}
use Rattle.context_book.specs.Books.{Rises, live_one, lives}
use Rattle.context_book.specs.Places.{HasNumber, IsBorder, IsPlaceOf}

-- the numbers rise, also from a place to itself
pub numbers_rise : (contexts : List Context) → Rises contexts → IsNonDecreasingBy (λ (context : Context). context.number) contexts
numbers_rise contexts rises i j d le within =
    grind (arith, rises i j d, λ (same : i ≡ j). ap (λ k. (get_or contexts k d).number) same)

-- so do the comparisons with a number
comparisons_rise : (contexts : List Context) (number : ℕ) → Rises contexts
    → IsNonDecreasingBy (λ (context : Context). ordering_index (nat_cmp context.number number)) contexts
comparisons_rise contexts number rises i j d le within =
    let numbers : (get_or contexts i d).number ≤ (get_or contexts j d).number = numbers_rise contexts rises i j d le within in
    grind (arith, nat_tests)

-- the place where a binary search ends
pub searched : (contexts : List Context) (number : ℕ) → Rises contexts → (r : Result ℕ ℕ) → IsSearchInRange r (length contexts)
    → IsBinarySearchResult (λ (context : Context). nat_cmp context.number number) contexts r
    → (place : Option ℕ) → place ≡ result_ok r → IsPlaceOf contexts number place
searched contexts number rises (Ok at) within equal place is =
    subst (IsPlaceOf contexts number) (sym is) (record { within = within; same = λ d. ranked _ number _ (sym (equal d)) })
searched contexts number rises (Err at) within parted place is =
    let parts = parted (comparisons_rise contexts number rises) in
    let other : All (λ (context : Context). context.number ≢ number) contexts =
    λ k d inside same. ⊎_elim
    (λ (below : k < at). let less : (get_or contexts k d).number < number = ranked _ number _
    (sym (parts.0 k d (omega arith) below)) in omega arith)
    (λ (above : at ≤ k). let more : number < (get_or contexts k d).number = ranked _ number _
    (sym (parts.1 k d above inside)) in omega arith)
    (cases_lt k at) in
    subst (IsPlaceOf contexts number) (sym is) other

-- all pass, or none does
pub filter_all : {X : Type 0} (p : X → Bool) (xs : List X) → All (λ x. p x ≡ true) xs → filter p xs ≡ xs
filter_all p [] all = refl
filter_all p (x ∷ xs) all =
    let here : p x ≡ true = All-head (λ x. p x ≡ true) x xs all in
    rw here (ap (λ ys. x ∷ ys) (filter_all p xs (All-tail (λ x. p x ≡ true) x xs all)))

pub filter_none : {X : Type 0} (p : X → Bool) (xs : List X) → All (λ x. p x ≡ false) xs → filter p xs ≡ []
filter_none p [] all = refl
filter_none p (x ∷ xs) all =
    let here : p x ≡ false = All-head (λ x. p x ≡ false) x xs all in
    rw here (filter_none p xs (All-tail (λ x. p x ≡ false) x xs all))

-- the front passes, and what is after it doesn't
pub filter_front : {X : Type 0} (p : X → Bool) (xs : List X) (i : ℕ) → i ≤ length xs → AllWithin (λ x. p x ≡ true) xs 0 i
    → AllWithin (λ x. p x ≡ false) xs i (length xs) → filter p xs ≡ take i xs
filter_front p xs i le passes fails =
    let front : All (λ x. p x ≡ true) (take i xs) =
    λ k d within. subst (λ x. p x ≡ true)
    (sym (get_or-take i xs k d (omega (arith, length-take i xs, within)))) (passes k d (omega arith) (omega (arith, length-take i xs, within))) in
    let back : All (λ x. p x ≡ false) (drop i xs) =
    λ k d within. subst (λ x. p x ≡ false)
    (sym (get_or-drop i xs k d)) (fails (i + k) d (omega arith) (omega (arith, length-drop i xs, within))) in
    ap (filter p) (sym (take-append-drop i xs)) ∙ filter-append p (take i xs) (drop i xs)
    ∙ ap (λ ys. ys ++ filter p (drop i xs)) (filter_all p (take i xs) front)
    ∙ ap (λ ys. take i xs ++ ys) (filter_none p (drop i xs) back) ∙ append-nil (take i xs)

-- the front doesn't pass, and what is after it does
pub filter_back : {X : Type 0} (p : X → Bool) (xs : List X) (i : ℕ) → i ≤ length xs → AllWithin (λ x. p x ≡ false) xs 0 i
    → AllWithin (λ x. p x ≡ true) xs i (length xs) → filter p xs ≡ drop i xs
filter_back p xs i le fails passes =
    let front : All (λ x. p x ≡ false) (take i xs) =
    λ k d within. subst (λ x. p x ≡ false)
    (sym (get_or-take i xs k d (omega (arith, length-take i xs, within)))) (fails k d (omega arith) (omega (arith, length-take i xs, within))) in
    let back : All (λ x. p x ≡ true) (drop i xs) =
    λ k d within. subst (λ x. p x ≡ true)
    (sym (get_or-drop i xs k d)) (passes (i + k) d (omega arith) (omega (arith, length-drop i xs, within))) in
    ap (filter p) (sym (take-append-drop i xs)) ∙ filter-append p (take i xs) (drop i xs)
    ∙ ap (λ ys. ys ++ filter p (drop i xs)) (filter_none p (take i xs) front)
    ∙ filter_all p (drop i xs) back

-- where the lower numbers end
pub bordered : (contexts : List Context) (number at : ℕ) → at ≤ length contexts
    → AllWithin (λ (context : Context). ltb context.number number ≡ true) contexts 0 at
    → AllWithin (λ (context : Context). ltb context.number number ≡ false) contexts at (length contexts) → IsBorder contexts number at
bordered contexts number at within lower others = record {
  within = within;
  below = λ k d less. let is = lower k d (omega arith) less in grind (arith, nat_tests);
  above = λ k d le inside. let is = others k d le inside in grind (arith, nat_tests);
}

abbrev pub has_number : ℕ → Context → Bool
has_number number context = eqb context.number number

-- the context, where it is live
abbrev pub alive : ℕ → Option Context → Option Context
alive moment None = None
alive moment (Some context) = cond (lives moment context) (Some context) None

-- where none has a number, no live one has
pub none_live : (number moment : ℕ) (contexts : List Context) → All (λ (context : Context). context.number ≢ number) contexts
    → live_one number moment contexts ≡ None
none_live number moment [] others = refl
none_live number moment (context ∷ contexts) others =
    let differs : context.number ≢ number = All-head (λ (it : Context). it.number ≢ number) context contexts others in
    let rest = none_live number moment contexts (All-tail (λ (it : Context). it.number ≢ number) context contexts others) in
    let no : eqb context.number number ≡ false = grind arith in
    elim (lives moment context) as
    (λ b. find (has_number number) (cond b (context ∷ filter (lives moment) contexts) (filter (lives moment) contexts)) ≡ None)
    [ true ↦ rw no rest | false ↦ rest ]

-- the live one of a number is the one of it, where that is live
live_one-is : (number moment : ℕ) (contexts : List Context) → Rises contexts
    → live_one number moment contexts ≡ alive moment (find (has_number number) contexts)
live_one-is number moment [] rises = refl
live_one-is number moment (context ∷ contexts) rises =
    let later : Rises contexts = λ i j d less within. rises (suc i) (suc j) d (omega arith) (omega arith) in
    let rest = live_one-is number moment contexts later in
    ⊎_elim
    (λ (same : eqb context.number number ≡ true).
    let above : All (λ (it : Context). it.number ≢ number) contexts = λ k d within equal.
    let less = rises zero (suc k) d (omega arith) (omega arith) in
    let is : context.number ≡ number = grind arith in omega arith in
    rw same (elim (lives moment context) as
    (λ b. find (has_number number) (cond b (context ∷ filter (lives moment) contexts) (filter (lives moment) contexts))
    ≡ cond b (Some context) None)
    [ true ↦ rw same refl | false ↦ none_live number moment contexts above ]))
    (λ (other : eqb context.number number ≡ false).
    rw other (elim (lives moment context) as
    (λ b. find (has_number number) (cond b (context ∷ filter (lives moment) contexts) (filter (lives moment) contexts))
    ≡ alive moment (find (has_number number) contexts))
    [ true ↦ rw other rest | false ↦ rest ]))
    (cases_Bool (eqb context.number number))

-- the one of a number stands at its place
find_there : (contexts : List Context) (number at : ℕ) → Rises contexts → HasNumber contexts number at → (d : Context)
    → find (has_number number) contexts ≡ Some (get_or contexts at d)
find_there contexts number at rises has d =
    let here : (get_or contexts at d).number ≡ number = has.same d in
    let within : at < length contexts = has.within in
    find_at (has_number number) contexts
    ∙ ap (slice_get contexts) (position_or_len_is (has_number number) contexts at d (omega arith)
    (λ k below. let less = rises k at d below within in grind arith)
    (λ _. grind arith))
    ∙ slice_get-get_or contexts at d within

-- the one at a place is live
pub live_there : (contexts : List Context) (number at moment : ℕ) → Rises contexts → HasNumber contexts number at
    → (context : Context) → context ≡ get_or contexts at context
    → lives moment context ≡ true → live_one number moment contexts ≡ slice_get contexts at
live_there contexts number at moment rises has context is live =
    let found : find (has_number number) contexts ≡ Some context = find_there contexts number at rises has context ∙ ap Some (sym is) in
    live_one-is number moment contexts rises
    ∙ ap (alive moment) found
    ∙ ap (λ b. cond b (Some context) None) live
    ∙ ap Some is ∙ sym (slice_get-get_or contexts at context has.within)

-- it is no longer live
pub late_there : (contexts : List Context) (number at moment : ℕ) → Rises contexts → HasNumber contexts number at
    → (context : Context) → context ≡ get_or contexts at context
    → lives moment context ≡ false → live_one number moment contexts ≡ None
late_there contexts number at moment rises has context is late =
    let found : find (has_number number) contexts ≡ Some context = find_there contexts number at rises has context ∙ ap Some (sym is) in
    live_one-is number moment contexts rises
    ∙ ap (alive moment) found
    ∙ ap (λ b. cond b (Some context) None) late
