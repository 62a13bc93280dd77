-- What the plans of searches answer, and which searches get one.
use Rattle.std.proofs.Common.{◌≡◌, ℕ, Bool, true, false, cond, List, [], Option, Some, None, Result, Ok, Err, IfOk, OnErr, subst, sym, ap, ap₂, refl, ◌∙◌}
use Rattle.std.specs.Option.{is_none, option_map, unwrap_or}
use Rattle.context_book.specs.declared.context.Context.{Context as Kept}
use Rattle.list_machine.specs.declared.event.Event.{Event}
use Rattle.list_machine.specs.declared.event.Event.TheVariants.{Create, Write, Seal, Publish, Search}
use Rattle.list_machine.specs.declared.event.Target.TheVariants.{Index as IndexTarget, Pit}
use Rattle.list_machine.specs.State.{Index, index_of, view_of}
use Rattle.es_core.specs.declared.turned.Turned.{Turned}
use Rattle.reader_gate.specs.Readers.{Held}
use Rattle.es_types.specs.declared.mapping.Field.{Field}
use Rattle.es_types.specs.declared.row.Row.{Row}
use Rattle.list_machine.specs.declared.event.Reply.{Reply}
use Rattle.list_machine.specs.declared.event.Reply.TheVariants.{BadAfter, BadQuery, BadSort, Found}
use Rattle.list_machine.specs.declared.page.request.SearchRequest.{SearchRequest}
use Rattle.list_machine.specs.Step.{after_fits_sort, search_reply, unfit}
use Rattle.list_machine.specs.Seen.Stores.{view_over}
use Rattle.list_machine.specs.Views.{View, answer}
use Rattle.es_core.specs.declared.turned.Plan.{Plan}
use Rattle.es_core.specs.declared.turned.Plan.TheVariants.{Page}
use Rattle.es_core.specs.declared.turned.Turned.TheVariants.{Later, Now}
use Rattle.es_core.specs.Contexts.{TurnMayWant}
use Rattle.es_core.specs.Indexes.{IsOfIndexes}
use Rattle.es_core.specs.Plans.{HandsOut, IsFirstPage, IsOfView, IsPlanned, Leaves, first_page, hits_before, is_found, plan_reply}

-- a plan of a pass and a request
pub planned : (view : View) (request asked : SearchRequest) (pass : Held View) (plan : Plan) → plan ≡ first_page pass asked → pass.body ≡ view → asked ≡ request
    → IsFirstPage view request plan
planned view request asked pass plan is body copied = subst (IsFirstPage view request) (sym is) (body, (copied, record { pages_are = refl; end_is = refl; scroll_is = refl }))

-- its running answers what the request asks of the view
pub page_replies : (view : View) (request : SearchRequest) (plan : Plan) → IsFirstPage view request plan → plan_reply plan ≡ Found (answer view request request.from)
page_replies view request (Page pass asked pages end scroll) is =
    ap (λ (of : ℕ). Found (answer pass.body asked (hits_before of pages asked))) is.1.1.scroll_is
    ∙ ap₂ (λ (it : View) (what : SearchRequest). Found (answer it what what.from)) is.0 is.1.0

-- what a test by the mapping says of a view
pub unfit_by : (view : View) (mapping : List Field) (request : SearchRequest) (result : Option Reply) → mapping ≡ view.mapping
    → ((index : List ℕ) (shards : List (List Row)) → unfit (view_over index mapping shards) request ≡ result) → unfit view request ≡ result
unfit_by view mapping request result same says =
    subst (λ (it : List Field). unfit (view_over view.index it view.shards) request ≡ result) same (says view.index view.shards)

-- a search of it is refused by that reply
pub is_refused : (view : View) (mapping : List Field) (request : SearchRequest) (result : Option Reply) (reply : Reply) → mapping ≡ view.mapping
    → ((index : List ℕ) (shards : List (List Row)) → unfit (view_over index mapping shards) request ≡ result)
    → result ≡ Some reply → reply ≡ search_reply view request
is_refused view mapping request result reply same says is =
    sym (ap (λ (o : Option Reply). unwrap_or o (Found (answer view request request.from))) (unfit_by view mapping request result same says ∙ is))

-- or it is answered, by its plan
pub is_answered_by : (view : View) (mapping : List Field) (request : SearchRequest) (result : Option Reply) (plan : Plan) → mapping ≡ view.mapping
    → ((index : List ℕ) (shards : List (List Row)) → unfit (view_over index mapping shards) request ≡ result)
    → result ≡ None → IsFirstPage view request plan → plan_reply plan ≡ search_reply view request
is_answered_by view mapping request result plan same says is first =
    page_replies view request plan first
    ∙ sym (ap (λ (o : Option Reply). unwrap_or o (Found (answer view request request.from))) (unfit_by view mapping request result same says ∙ is))

-- ---- refusals

refusal_not : (query sort after : Bool) (reply : Reply)
    → cond query (cond sort (cond after None (Some BadAfter)) (Some BadSort)) (Some BadQuery) ≡ Some reply → is_found reply ≡ false
refusal_not true true true reply is = absurd (cc)
refusal_not true true false reply is = let same : reply ≡ BadAfter = cc in ap is_found same
refusal_not true false after reply is = let same : reply ≡ BadSort = cc in ap is_found same
refusal_not false sort after reply is = let same : reply ≡ BadQuery = cc in ap is_found same

-- a refusal is no answer
pub refused_not : (mapping : List Field) (request : SearchRequest) (result : Option Reply) (reply : Reply)
    → ((index : List ℕ) (shards : List (List Row)) → unfit (view_over index mapping shards) request ≡ result)
    → result ≡ Some reply → is_found reply ≡ false
refused_not mapping request result reply says is =
    refusal_not _ _ (after_fits_sort (view_over [] mapping []) request.sort request.after) reply (says [] [] ∙ is)

-- and a first page is what was planned
pub page_planned : (view : View) (request : SearchRequest) (plan : Plan) → IsFirstPage view request plan → IsPlanned request (Later plan)
page_planned view request (Page pass asked pages end scroll) is = is.1

-- of that view
pub page_of_view : (view : View) (request : SearchRequest) (plan : Plan) (seen : Option View) → seen ≡ Some view → IsFirstPage view request plan → IsOfView seen (Later plan)
page_of_view view request (Page pass asked pages end scroll) seen there is = there ∙ ap (λ (it : View). Some it) (sym is.0)

-- what a search of an index hands out, where the contexts stay
pub looked_out : (request : SearchRequest) (indexes : List Index) (name : List ℕ) (moment : ℕ) (contexts : List Kept) {E : Type 0} (r : Result Turned E)
    → IfOk r (IsPlanned request) → IfOk r (IsOfView (option_map view_of (index_of name indexes)))
    → IfOk r (HandsOut (Search (IndexTarget name) request) moment indexes contexts contexts)
looked_out request indexes name moment contexts (Ok turned) is of = (is, (of, refl))
looked_out request indexes name moment contexts (Err e) is of = tt

-- and one of a context
pub searched_out : (request : SearchRequest) (indexes : List Index) (number moment : ℕ) (keep : Option ℕ) (old new : List Kept) {E : Type 0} (r : Result Turned E)
    → IfOk r (IsPlanned request) → IfOk r (Leaves number moment keep old new)
    → IfOk r (HandsOut (Search (Pit number keep) request) moment indexes old new)
searched_out request indexes number moment keep old new (Ok turned) is leaves = (is, leaves)
searched_out request indexes number moment keep old new (Err e) is leaves = tt

-- an event of the indexes alone is answered at once, and leaves the contexts
pub indexes_out : (event : Event) (moment : ℕ) (indexes : List Index) (contexts : List Kept) (reply : Reply) → IsOfIndexes event
    → HandsOut event moment indexes contexts contexts (Now reply)
indexes_out (Create index shards mapping) moment indexes contexts reply alone = (tt, refl)
indexes_out (Write index id change) moment indexes contexts reply alone = (tt, refl)
indexes_out (Seal index) moment indexes contexts reply alone = (tt, refl)
indexes_out (Publish index shard upto) moment indexes contexts reply alone = (tt, refl)
indexes_out other moment indexes contexts reply alone = absurd alone

-- it may want memory in any case
pub indexes_want : (event : Event) (moment : ℕ) (contexts : List Kept) → IsOfIndexes event → {A E : Type 0} (r : Result A E) → OnErr r (TurnMayWant event moment contexts)
indexes_want event moment contexts alone (Ok value) = tt
indexes_want (Create index shards mapping) moment contexts alone (Err e) = tt
indexes_want (Write index id change) moment contexts alone (Err e) = tt
indexes_want (Seal index) moment contexts alone (Err e) = tt
indexes_want (Publish index shard upto) moment contexts alone (Err e) = tt
indexes_want other moment contexts alone (Err e) = absurd alone

-- where memory may run out at an event, whatever a call answers that wants it
pub may_want : (event named : Event) (moment : ℕ) (contexts : List Kept) → event ≡ named → TurnMayWant named moment contexts → {A E : Type 0} (r : Result A E)
    → OnErr r (TurnMayWant event moment contexts)
may_want event named moment contexts is wants (Ok value) = tt
may_want event named moment contexts is wants (Err e) = subst (λ (it : Event). TurnMayWant it moment contexts) (sym is) wants

-- also where the moment is another's name
pub wanted_at : (event : Event) (at moment : ℕ) (contexts : List Kept) → at ≡ moment → TurnMayWant event at contexts → {A E : Type 0} (r : Result A E)
    → OnErr r (TurnMayWant event moment contexts)
wanted_at event at moment contexts is wants (Ok value) = tt
wanted_at event at moment contexts is wants (Err e) = subst (λ (it : ℕ). TurnMayWant event it contexts) is wants
