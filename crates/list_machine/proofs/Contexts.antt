-- A context is found by its number from its opening on, and by no search before.
use Rattle.std.proofs.Common.{◌≡◌, ℕ, ◌+◌, ◌<◌, ◌≤◌, ◌==◌, Bool, true, false, cond, List, [], ◌∷◌, ◌++◌, length, map, Option, Some, None, All, refl, sym, ap, ap₂, ◌∙◌, arith, eq-eqb, ne_eqb}
use Rattle.std.specs.Option.{option_or, unwrap_or}
use Rattle.std.proofs.lemmas.Bool.{cond-true, cond-false}
use Rattle.std.proofs.lemmas.List.Elements.{All-head, All-tail}
use Rattle.std.proofs.lemmas.List.Folds.{find-append}
use Rattle.es_query.specs.Fits.{fits}
use Rattle.es_sort.specs.Fits.{sort_fits}
use Rattle.list_machine.specs.declared.event.Reply.{Reply}
use Rattle.list_machine.specs.declared.event.Reply.TheVariants.{Opened, Found, TooMany, Missing, BadQuery, BadSort, BadAfter}
use Rattle.list_machine.specs.declared.page.request.SearchRequest.{SearchRequest}
use Rattle.list_machine.specs.declared.page.request.Answer.{Answer}
use Rattle.list_machine.specs.Views.{View, answer, mapping_at}
use Rattle.list_machine.specs.State.{State, Index, Context, context_of, is_live, pit, view_of}
use Rattle.list_machine.specs.Step.{after_fits_sort, is_fit, keep_longer, search_pit, search_reply}
use Rattle.list_machine.proofs.ContextMoves.{Named, named, named_of}
use Rattle.list_machine.proofs.Moves.{opened}
use Rattle.list_machine.proofs.Runs.{Later}

-- what is found stays found, with its view
pub found_later : (old new : State) (number : ℕ) (it : Named) → Later old new → named_of number (map named old.contexts) ≡ Some it → named_of number (map named new.contexts) ≡ Some it
found_later old new number it later e =
    ap (named_of number) later.contexts
    ∙ find-append (λ (it : Named). it.number == number) (map named old.contexts) later.more
    ∙ ap (λ o. option_or o (named_of number later.more)) e

-- no context has a number that is above all
pub none_above : (contexts : List Context) (next number : ℕ) → next ≤ number → All (λ (context : Context). context.number < next) contexts → context_of number contexts ≡ None
none_above [] next number l all = refl
none_above (context ∷ contexts) next number l all =
    let head = All-head (λ (context : Context). context.number < next) context contexts all in
    cond-false (context.number == number) (Some context) (context_of number contexts) (ne_eqb context.number number (λ e. omega (arith, head)))
    ∙ none_above contexts next number l (All-tail (λ (context : Context). context.number < next) context contexts all)

-- the two outcomes of an opening
pub opening_cases : (full : Bool) (state : State) (keep : ℕ) (index : Index) (number : ℕ) (r : State × Reply) → r ≡ cond full (state, TooMany state.limits.pits) (opened state keep index, Opened state.next) → r.1 ≡ Opened number → (state.next ≡ number) × (r.0 ≡ opened state keep index)
opening_cases true state keep index number r e o = let no : TooMany state.limits.pits ≡ Opened number = sym (ap (λ (r : State × Reply). r.1) e) ∙ o in absurd (cc)
opening_cases false state keep index number r e o =
    let yes : Opened state.next ≡ Opened number = sym (ap (λ (r : State × Reply). r.1) e) ∙ o in
    let same : state.next ≡ number = cc in
    (same, ap (λ (r : State × Reply). r.0) e)

-- the context of the next number is found after the others
pub found_next : (state : State) (keep : ℕ) (index : Index) → All (λ (context : Context). context.number < state.next) state.contexts → context_of state.next (opened state keep index).contexts ≡ Some (pit state.next (view_of index) (state.moment + keep))
found_next state keep index h =
    let new : Context = pit state.next (view_of index) (state.moment + keep) in
    find-append (λ (context : Context). context.number == state.next) state.contexts (new ∷ [])
    ∙ ap (λ o. option_or o (context_of state.next (new ∷ []))) (none_above state.contexts state.next state.next (omega arith) h)
    ∙ cond-true (state.next == state.next) (Some new) None (eq-eqb state.next state.next refl)

-- what a search finds is the answer to a request that fits
reply_cases : (view : View) (request : SearchRequest) (found : Answer) → search_reply view request ≡ Found found → found ≡ answer view request request.from
reply_cases view request found e = go (fits (mapping_at view 0) request.query) (sort_fits (mapping_at view 0) request.sort) (after_fits_sort view request.sort request.after) e
  where
    go : (query sort after : Bool)
        → unwrap_or (cond query (cond sort (cond after None (Some BadAfter)) (Some BadSort)) (Some BadQuery)) (Found (answer view request request.from)) ≡ Found found
        → found ≡ answer view request request.from
    go true true true e = cc
    go true true false e = absurd (cc)
    go true false after e = absurd (cc)
    go false sort after e = absurd (cc)

-- what a found answer is of
pub search_cases : (state : State) (number : ℕ) (keep : Option ℕ) (request : SearchRequest) (o : Option Context) (found : Answer) → (search_pit state number keep request o).1 ≡ Found found
    → (context : Context) × (o ≡ Some context) × (found ≡ answer context.view request request.from)
search_cases state number keep request None found e = absurd (cc)
search_cases state number keep request (Some context) found e =
    (context, refl, go (is_live state.moment context) (cond (is_fit context.view request) (keep_longer state number keep) state) e)
  where
    go : (live : Bool) (kept : State) → (cond {A = State × Reply} live (kept, search_reply context.view request) (state, Missing)).1 ≡ Found found → found ≡ answer context.view request request.from
    go true kept e = reply_cases context.view request found e
    go false kept e = absurd (cc)

-- one list cut at two places
pub cut_twice : {X : Type 0} (xs ys us vs : List X) → xs ++ us ≡ ys ++ vs → length xs ≤ length ys → (rest : List X) × (ys ≡ xs ++ rest) × (us ≡ rest ++ vs)
cut_twice [] ys us vs e l = (ys, refl, e)
cut_twice (x ∷ xs) [] us vs e l = absurd (omega arith)
cut_twice (x ∷ xs) (y ∷ ys) us vs e l =
    let tails : xs ++ us ≡ ys ++ vs = cc in
    let heads : y ≡ x = cc in
    let r = cut_twice xs ys us vs tails (omega arith) in
    (r.0, ap₂ (λ h t. h ∷ t) heads r.1, r.2)
