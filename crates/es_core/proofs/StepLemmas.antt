-- What an event makes of the states that a core may hold.
use Rattle.std.proofs.Common.{◌≡◌, ℕ, ◌+◌, ◌<◌, ◌≤◌, Bool, true, false, cond, eqb, max, List, [], ◌∷◌, ◌++◌, length, Option, Some, None, Result, Ok, Err, IfOk, OnOk, All, map, not, Vec, Global, refl, sym, ap, ap₂, subst, subst₂, ◌∙◌, ⊎_elim, arith, length-append}
use Rattle.std.specs.List.{count_by, filter, find, sum_by}
use Rattle.std.specs.Option.{option_map}
use Rattle.std.proofs.lemmas.Bool.{cases_Bool}
use Rattle.std.proofs.lemmas.List.Elements.{All-push, All-weaker, filter-append}
use Rattle.std.proofs.lemmas.List.Sums.{length-filter, sum_by-le}
use Rattle.es_types.specs.declared.limits.TheConstants.{MOST_ENTRIES}
use Rattle.list_machine.specs.declared.event.Entry.{Entry}
use Rattle.list_machine.specs.declared.event.Event.{Event}
use Rattle.list_machine.specs.declared.event.Event.TheVariants.{Close, OpenPit, Quiet, Search}
use Rattle.list_machine.specs.declared.event.Limits.{Limits}
use Rattle.list_machine.specs.declared.event.Reply.{Reply}
use Rattle.list_machine.specs.declared.event.Reply.TheVariants.{Closed, Done, Missing, NoIndex, Opened, TooMany}
use Rattle.list_machine.specs.declared.event.Which.{Which}
use Rattle.list_machine.specs.declared.event.Target.TheVariants.{Pit}
use Rattle.list_machine.specs.declared.page.request.SearchRequest.{SearchRequest}
use Rattle.list_machine.specs.Rows.{Shard, last_number}
use Rattle.list_machine.specs.Run.{IsBounded, History, PutsObject, reply_of, run, state_of}
use Rattle.list_machine.specs.State.{Context, Index, State, index_of, is_live, live_contexts, start, view_of}
use Rattle.list_machine.specs.Step.{at_moment, close_one, freed, happen, is_closing, is_fit, keep_longer, keep_one, open_pit, search_pit, search_reply, step}
use Rattle.list_machine.specs.Views.{View}
use Rattle.list_machine.specs.Changes.{Moves}
use Rattle.list_machine.specs.Seen.Stores.{AreNumbered, IsCounted, IsCountedIndex, IsSmall as IsViewSmall, most_entries}
use Rattle.es_core.specs.declared.node.Core.{Core}
use Rattle.context_book.specs.declared.context.Context.{Context as Kept}
use Rattle.es_core.specs.declared.turned.Chore.{Chore}
use Rattle.es_core.specs.declared.turned.Chore.TheVariants.{Reap, NoteEnd}
use Rattle.es_core.specs.declared.turned.Turned.{Turned}
use Rattle.es_core.specs.Plans.{turned_reply}
use Rattle.es_core.specs.Contexts.{AllLent, contexts_seen, left_by, found, freed_where_fit, is_answered, is_opened, kept_on_answer, live_context, opening}
use Rattle.context_book.specs.Books.{Book, CanLend}
use Rattle.es_core.specs.Indexes.{AllNumbered}
use Rattle.es_core.specs.Stands.{Rests, Stands, StandsOn}
use Rattle.es_core.specs.Steps.{Holds, IsSame, HasSmallNumbers, Steps}
use Rattle.es_core.proofs.IndexLemmas.{mapped_none, mapped_some}
use Rattle.es_core.proofs.Lending.{Lends, all_can, lends_left, lent_few, lent_next}
use Rattle.es_core.proofs.ContextLemmas.{reaped_seen, SeenRises, alive, closed_live, filter_less, filter_swap, freed_alike, kept_alike, live_again, live_context-is}

-- a step that leads to this state and this reply
steps_to : (old new : Core) (moment : ℕ) (event : Event) (reply : Reply) (state next : State) → happen state event ≡ (next, reply) → Holds new moment next
    → Holds new moment (happen state event).0 × (reply ≡ (happen state event).1)
steps_to old new moment event reply state next is holds =
    (subst (λ (pair : State × Reply). Holds new moment pair.0) (sym is) holds, sym (ap (λ (pair : State × Reply). pair.1) is))

-- all but the indexes are as before
pub record IsBeside (old new : Core) : Type 0 where
  pub limits_are : new.limits ≡ old.limits
  pub next : new.next ≡ old.next
  pub book : new.book ≡ old.book

-- the operations of the indexes have small numbers, as those of the state have
small_indexes : (core : Core) (moment : ℕ) (state : State) → Holds core moment state → HasSmallNumbers state → AllNumbered core.catalog
small_indexes core moment state holds small =
    subst AllNumbered (sym holds.indexes) small.numbers

-- an event that changes indexes alone
moved_steps : (old new : Core) (moment : ℕ) (event : Event) (reply : Reply) → IsBeside old new
    → (AllNumbered old.catalog → Moves (λ state. happen state event) old.catalog new.catalog reply) → Steps old new moment event reply
moved_steps old new moment event reply beside moves state holds small few =
    let there : happen (record state { indexes = old.catalog }) event ≡ (record state { indexes = new.catalog }, reply) =
    moves (small_indexes old moment state holds small) state in
    let here : happen state event ≡ (record state { indexes = new.catalog }, reply) =
    subst (λ (indexes : List Index). happen (record state { indexes = indexes }) event ≡ (record state { indexes = new.catalog }, reply)) holds.indexes there in
    steps_to old new moment event reply state (record state { indexes = new.catalog }) here (record {
      limits_are = beside.limits_are ∙ holds.limits_are;
      moment_is = holds.moment_is;
      next = beside.next ∙ holds.next;
      indexes = refl;
      contexts = λ later l. ap (λ (it : Book). filter (is_live later) (contexts_seen it.contexts)) beside.book ∙ holds.contexts later l;
    })

-- the same at that event
pub moved_done : (old new : Core) (moment : ℕ) (event named : Event) (reply : Reply) → event ≡ named → IsBeside old new
    → (AllNumbered old.catalog → Moves (λ state. happen state named) old.catalog new.catalog reply) → Steps old new moment event reply
moved_done old new moment event named reply is beside moves =
    subst (λ (it : Event). Steps old new moment it reply) (sym is) (moved_steps old new moment named reply beside moves)

-- the same of a search that a call planned
pub looked_done : (old new : Core) (moment : ℕ) (event named : Event) → event ≡ named → IsBeside old new → {E : Type 0} (r : Result Turned E)
    → IfOk r (λ turned. Moves (λ state. happen state named) old.catalog new.catalog (turned_reply turned))
    → IfOk r (λ turned. Steps old new moment event (turned_reply turned))
looked_done old new moment event named is beside (Ok turned) moves = moved_done old new moment event named (turned_reply turned) is beside (λ _. moves)
looked_done old new moment event named is beside (Err e) moves = tt

-- a search of a context goes by the live one
abbrev search_live : State → ℕ → Option ℕ → SearchRequest → Option Context → State × Reply
search_live state number keep request None = (state, Missing)
search_live state number keep request (Some context) =
    (cond (is_fit context.view request) (keep_longer state number keep) state, search_reply context.view request)

search_pit-is : (state : State) (number : ℕ) (keep : Option ℕ) (request : SearchRequest) (o : Option Context)
    → search_pit state number keep request o ≡ search_live state number keep request (alive state.moment o)
search_pit-is state number keep request None = refl
search_pit-is state number keep request (Some context) =
    elim (is_live state.moment context) as (λ b. ◌≡◌ {A = State × Reply} (cond {A = State × Reply} b (cond (is_fit context.view request) (keep_longer state number keep) state, search_reply context.view request) (state, Missing))
    (search_live state number keep request (cond b (Some context) None)))
    [ true ↦ refl | false ↦ refl ]

-- what the answer of a search of that one says of the contexts
live_found : (state : State) (number : ℕ) (keep : Option ℕ) (request : SearchRequest) (o : Option Context)
    → search_live state number keep request o
    ≡ (record state { contexts = kept_on_answer state.moment number keep (is_answered request o) state.contexts }, found request o)
live_found state number None request None = refl
live_found state number (Some keep) request None = refl
live_found state number None request (Some context) =
    elim (is_fit context.view request) as (λ b. ◌≡◌ {A = State × Reply} (cond b state state, search_reply context.view request) (state, search_reply context.view request))
    [ true ↦ refl | false ↦ refl ]
live_found state number (Some keep) request (Some context) =
    elim (is_fit context.view request) as (λ b. ◌≡◌ {A = State × Reply} (cond b (keep_longer state number (Some keep)) state, search_reply context.view request)
    (record state { contexts = cond b (map (keep_one state.moment number keep) state.contexts) state.contexts }, search_reply context.view request))
    [ true ↦ refl | false ↦ refl ]

-- all but the contexts is as before
pub record IsKeptCore (old new : Core) : Type 0 where
  pub limits_are : new.limits ≡ old.limits
  pub next : new.next ≡ old.next
  pub indexes : new.catalog ≡ old.catalog

-- a core whose contexts are live as those of a state, and else is as another, holds what that holds
contexts_hold : (old new : Core) (moment : ℕ) (state : State) (contexts : List Context) → IsKeptCore old new → Holds old moment state
    → ((later : ℕ) → moment ≤ later → filter (is_live later) (contexts_seen new.book.contexts) ≡ filter (is_live later) contexts)
    → Holds new moment (record state { contexts = contexts })
contexts_hold old new moment state contexts same holds alike = record {
  limits_are = same.limits_are ∙ holds.limits_are;
  moment_is = holds.moment_is;
  next = same.next ∙ holds.next;
  indexes = same.indexes ∙ holds.indexes;
  contexts = alike;
}

-- the contexts after a search, where the same were live before
kept_same : (moment number : ℕ) (keep : Option ℕ) (request : SearchRequest) (o : Option Context) (xs ys : List Context) → SeenRises xs → SeenRises ys
    → live_context number moment xs ≡ o → ((later : ℕ) → moment ≤ later → filter (is_live later) xs ≡ filter (is_live later) ys)
    → (later : ℕ) → moment ≤ later
    → filter (is_live later) (kept_on_answer moment number keep (is_answered request o) xs) ≡ filter (is_live later) (kept_on_answer moment number keep (is_answered request o) ys)
kept_same moment number None request o xs ys rises rise is alike later from = alike later from
kept_same moment number (Some keep) request None xs ys rises rise is alike later from = alike later from
kept_same moment number (Some keep) request (Some one) xs ys rises rise is alike later from =
    elim (is_fit one.view request) as (λ b. filter (is_live later) (cond b (map (keep_one moment number keep) xs) xs) ≡ filter (is_live later) (cond b (map (keep_one moment number keep) ys) ys))
    [ true ↦ kept_alike moment later number keep xs ys one from rises rise is (alike moment (omega arith)) | false ↦ alike later from ]

-- a search of a point in time keeps it longer, and changes nothing else
search_steps : (old new : Core) (moment number : ℕ) (keep : Option ℕ) (request : SearchRequest) (reply : Reply) → IsKeptCore old new → SeenRises (contexts_seen old.book.contexts)
    → (CanLend number moment old.book.contexts → reply ≡ found request (live_context number moment (contexts_seen old.book.contexts)))
    → (CanLend number moment old.book.contexts
    → contexts_seen new.book.contexts ≡ kept_on_answer moment number keep (is_answered request (live_context number moment (contexts_seen old.book.contexts))) (contexts_seen old.book.contexts))
    → Steps old new moment (Search (Pit number keep) request) reply
search_steps old new moment number keep request reply same rises is now state holds small few =
    let can : CanLend number moment old.book.contexts = all_can number moment old.book.contexts few in
    let o : Option Context = live_context number moment (contexts_seen old.book.contexts) in
    let live : alive state.moment (find (λ context. eqb context.number number) state.contexts) ≡ o =
    ap (λ at. alive at (find (λ context. eqb context.number number) state.contexts)) holds.moment_is
    ∙ sym (live_context-is number moment state.contexts small.differ)
    ∙ ap (find (λ context. eqb context.number number)) (sym (holds.contexts moment (omega arith))) in
    let next : State = record state { contexts = kept_on_answer moment number keep (is_answered request o) state.contexts } in
    let made : ℕ → State × Reply = λ at. (record state { contexts = kept_on_answer at number keep (is_answered request o) state.contexts }, found request o) in
    let replied : Reply → State × Reply = λ it. (next, it) in
    steps_to old new moment (Search (Pit number keep) request) reply state next
    (search_pit-is state number keep request (find (λ context. eqb context.number number) state.contexts)
    ∙ ap (search_live state number keep request) live
    ∙ live_found state number keep request o
    ∙ ap made holds.moment_is
    ∙ ap replied (sym (is can)))
    (contexts_hold old new moment state (kept_on_answer moment number keep (is_answered request o) state.contexts) same holds
    (λ later from. ap (filter (is_live later)) (now can)
    ∙ kept_same moment number keep request o (contexts_seen old.book.contexts) state.contexts rises small.differ refl holds.contexts later from))

-- the same of what a call gave at that event
pub search_done : (old new : Core) (moment : ℕ) (event : Event) (number : ℕ) (keep : Option ℕ) (request : SearchRequest) → event ≡ Search (Pit number keep) request
    → IsKeptCore old new → SeenRises (contexts_seen old.book.contexts) → {E : Type 0} (r : Result Turned E)
    → (CanLend number moment old.book.contexts → IfOk r (λ turned. turned_reply turned ≡ found request (live_context number moment (contexts_seen old.book.contexts))))
    → (CanLend number moment old.book.contexts
    → OnOk r (contexts_seen new.book.contexts ≡ kept_on_answer moment number keep (is_answered request (live_context number moment (contexts_seen old.book.contexts))) (contexts_seen old.book.contexts)))
    → IfOk r (λ turned. Steps old new moment event (turned_reply turned))
search_done old new moment event number keep request named same rises (Ok turned) is now =
    subst (λ (it : Event). Steps old new moment it (turned_reply turned)) (sym named) (search_steps old new moment number keep request (turned_reply turned) same rises is now)
search_done old new moment event number keep request named same rises (Err e) is now = tt

-- ---- closing

-- what a closing frees can be counted
freed_small : (moment : ℕ) (which : Which) (state : State) → HasSmallNumbers state → freed moment which state.contexts ≤ 18446744073709551615
freed_small moment which state small =
    let part = filter_less (is_closing moment which) (λ (context : Context). length context.view.shards) state.contexts in
    omega (arith, small.shards)

-- contexts are closed
pub close_steps : (old new : Core) (moment : ℕ) (which : Which) (count : ℕ) → IsKeptCore old new
    → count ≡ freed_where_fit moment which (contexts_seen old.book.contexts)
    → contexts_seen new.book.contexts ≡ filter (λ (context : Context). not (is_closing moment which context)) (contexts_seen old.book.contexts)
    → Steps old new moment (Close which) (Closed count)
close_steps old new moment which count same is now state holds small few =
    let next : State = record state { contexts = map (close_one moment which) state.contexts } in
    let xs = contexts_seen old.book.contexts in
    let alike : freed moment which xs ≡ freed moment which state.contexts = freed_alike moment which xs state.contexts (holds.contexts moment (omega arith)) in
    let fits = freed_small moment which state small in
    let counted : freed moment which state.contexts ≡ count = grind (arith, is, alike, fits) in
    let made : ℕ → State × Reply = λ at. (record state { contexts = map (close_one at which) state.contexts }, Closed (freed at which state.contexts)) in
    let replied : ℕ → State × Reply = λ n. (next, Closed n) in
    steps_to old new moment (Close which) (Closed count) state next (ap made holds.moment_is ∙ ap replied counted)
    (contexts_hold old new moment state (map (close_one moment which) state.contexts) same holds
    (λ later from. ap (filter (is_live later)) now
    ∙ filter_swap (is_live later) (λ (context : Context). not (is_closing moment which context)) xs
    ∙ ap (filter (λ (context : Context). not (is_closing moment which context))) (holds.contexts later from)
    ∙ sym (closed_live moment later which state.contexts)))

-- the same at that event
pub close_done : (old new : Core) (moment : ℕ) (event : Event) (which : Which) (count : ℕ) → event ≡ Close which → IsKeptCore old new
    → count ≡ freed_where_fit moment which (contexts_seen old.book.contexts)
    → contexts_seen new.book.contexts ≡ filter (λ (context : Context). not (is_closing moment which context)) (contexts_seen old.book.contexts)
    → Steps old new moment event (Closed count)
close_done old new moment event which count named same is now =
    subst (λ (it : Event). Steps old new moment it (Closed count)) (sym named) (close_steps old new moment which count same is now)

-- ---- opening

-- a point in time of an index that isn't there
pub open_none : (old new : Core) (moment : ℕ) (name : List ℕ) (keep : ℕ) → IsKeptCore old new → new.book ≡ old.book
    → None ≡ option_map view_of (index_of name old.catalog) → Steps old new moment (OpenPit name keep) NoIndex
open_none old new moment name keep same book none state holds small few =
    steps_to old new moment (OpenPit name keep) NoIndex state state
    (ap (λ indexes. open_pit state keep (index_of name indexes)) (sym holds.indexes) ∙ ap (open_pit state keep) (mapped_none view_of (index_of name old.catalog) none))
    (contexts_hold old new moment state state.contexts same holds
    (λ later from. ap (λ (it : Book). filter (is_live later) (contexts_seen it.contexts)) book ∙ holds.contexts later from))

-- how many contexts of the state are live
live_count : (core : Core) (moment : ℕ) (state : State) → Holds core moment state → live_contexts state ≡ count_by (is_live moment) (contexts_seen core.book.contexts)
live_count core moment state holds =
    ap (λ at. count_by (is_live at) state.contexts) holds.moment_is
    ∙ sym (length-filter (is_live moment) state.contexts)
    ∙ ap length (sym (holds.contexts moment (omega arith)))
    ∙ length-filter (is_live moment) (contexts_seen core.book.contexts)

-- the new context of a view
abbrev new_context : ℕ → View → ℕ → Context
new_context number view expiry = record { number = number; view = view; expiry = expiry; closed = false }

-- the state with a new context of the index
abbrev opened : State → ℕ → Index → State
opened state keep index = record state {
  next = state.next + 1;
  contexts = state.contexts ++ new_context state.next (view_of index) (state.moment + keep) ∷ [];
}

-- the next number after an opening
abbrev pub next_after : Reply → ℕ → ℕ
next_after reply next = cond (is_opened reply) (next + 1) next

-- a core after an opening: as many may be live as its limits say
pub record IsOpening (old new : Core) (moment : ℕ) (view : View) (expiry : ℕ) (reply : Reply) : Type 0 where
  pub limits_are : new.limits ≡ old.limits
  pub limited : old.book.limit ≡ old.limits.pits
  pub next : new.next ≡ next_after reply old.next
  pub indexes : new.catalog ≡ old.catalog
  pub contexts : opening moment old.next view expiry old.book.limit (contexts_seen old.book.contexts) ≡ (contexts_seen new.book.contexts, reply)

-- what the machine replies to an opening, by whether as many as may be are live
open_is : (core : Core) (moment : ℕ) (name : List ℕ) (keep : ℕ) (index : Index) → index_of name core.catalog ≡ Some index
    → (state : State) → Holds core moment state → core.book.limit ≡ core.limits.pits
    → happen state (OpenPit name keep)
    ≡ cond {A = State × Reply} (eqb (count_by (is_live moment) (contexts_seen core.book.contexts)) core.book.limit) (state, TooMany core.book.limit) (opened state keep index, Opened core.next)
open_is core moment name keep index there state holds limited =
    let chosen : Bool → State × Reply = λ b. cond b (state, TooMany state.limits.pits) (opened state keep index, Opened state.next) in
    let full : Bool = eqb (count_by (is_live moment) (contexts_seen core.book.contexts)) core.book.limit in
    let replied : ℕ → ℕ → State × Reply = λ pits next. cond full (state, TooMany pits) (opened state keep index, Opened next) in
    let pits : core.book.limit ≡ state.limits.pits = limited ∙ ap (λ (it : Limits). it.pits) holds.limits_are in
    let test : eqb (live_contexts state) state.limits.pits ≡ full = ap₂ eqb (live_count core moment state holds) (sym pits) in
    ap (λ indexes. open_pit state keep (index_of name indexes)) (sym holds.indexes)
    ∙ ap (open_pit state keep) there
    ∙ ap chosen test
    ∙ ap₂ replied (sym pits) (sym holds.next)

pairs : {A B : Type 0} (a x : A) (b y : B) → ◌≡◌ {A = A × B} (a, b) (x, y) → (a ≡ x) × (b ≡ y)
pairs a x b y is = (ap (λ (p : _ × _). p.0) is, ap (λ (p : _ × _). p.1) is)

-- a point in time is opened, or refused
pub open_steps : (old new : Core) (moment : ℕ) (name : List ℕ) (keep : ℕ) (view : View) (expiry : ℕ) (reply : Reply)
    → Some view ≡ option_map view_of (index_of name old.catalog) → expiry ≡ moment + keep → IsOpening old new moment view expiry reply
    → Steps old new moment (OpenPit name keep) reply
open_steps old new moment name keep view expiry reply finds ends opens state holds small few =
    let found = mapped_some view_of (index_of name old.catalog) view finds in
    let index : Index = found.0 in
    let cs = contexts_seen old.book.contexts in
    let is = open_is old moment name keep index found.1 state holds opens.limited in
    ⊎_elim
    (λ (full : eqb (count_by (is_live moment) cs) old.book.limit ≡ true).
    let chosen : Bool → List Context × Reply = λ b. cond b (cs, TooMany old.book.limit) (cs ++ new_context old.next view expiry ∷ [], Opened old.next) in
    let both = pairs cs (contexts_seen new.book.contexts) (TooMany old.book.limit) reply (sym (ap chosen full) ∙ opens.contexts) in
    let same : new.next ≡ old.next = opens.next ∙ ap (λ it. next_after it old.next) (sym both.1) in
    let made : Bool → State × Reply = λ b. cond b (state, TooMany old.book.limit) (opened state keep index, Opened old.next) in
    let replied : Reply → State × Reply = λ it. (state, it) in
    steps_to old new moment (OpenPit name keep) reply state state (is ∙ ap made full ∙ ap replied both.1)
    (contexts_hold old new moment state state.contexts (record { limits_are = opens.limits_are; next = same; indexes = opens.indexes }) holds
    (λ later from. ap (filter (is_live later)) (sym both.0) ∙ holds.contexts later from)))
    (λ (room : eqb (count_by (is_live moment) cs) old.book.limit ≡ false).
    let chosen : Bool → List Context × Reply = λ b. cond b (cs, TooMany old.book.limit) (cs ++ new_context old.next view expiry ∷ [], Opened old.next) in
    let both = pairs (cs ++ new_context old.next view expiry ∷ []) (contexts_seen new.book.contexts) (Opened old.next) reply (sym (ap chosen room) ∙ opens.contexts) in
    let more : new.next ≡ old.next + 1 = opens.next ∙ ap (λ it. next_after it old.next) (sym both.1) in
    let made : Bool → State × Reply = λ b. cond b (state, TooMany old.book.limit) (opened state keep index, Opened old.next) in
    let replied : Reply → State × Reply = λ it. (opened state keep index, it) in
    let last : new_context old.next view expiry ≡ new_context state.next (view_of index) (state.moment + keep) =
    ap (λ n. new_context n view expiry) holds.next ∙ ap₂ (new_context state.next) found.2 (ends ∙ ap (λ at. at + keep) (sym holds.moment_is)) in
    steps_to old new moment (OpenPit name keep) reply state (opened state keep index) (is ∙ ap made room ∙ ap replied both.1) (record {
      limits_are = opens.limits_are ∙ holds.limits_are;
      moment_is = holds.moment_is;
      next = more ∙ ap (λ n. n + 1) holds.next;
      indexes = opens.indexes ∙ holds.indexes;
      contexts = λ later l.
          ap (filter (is_live later)) (sym both.0)
          ∙ filter-append (is_live later) cs (new_context old.next view expiry ∷ [])
          ∙ ap₂ (λ front it. front ++ filter (is_live later) (it ∷ [])) (holds.contexts later l) last
          ∙ sym (filter-append (is_live later) state.contexts (new_context state.next (view_of index) (state.moment + keep) ∷ []));
    }))
    (cases_Bool (eqb (count_by (is_live moment) cs) old.book.limit))

-- there is no number left, which no small state has
pub open_last : (old new : Core) (moment : ℕ) (name : List ℕ) (keep : ℕ) (reply : Reply) → old.next ≡ 18446744073709551615 → Steps old new moment (OpenPit name keep) reply
open_last old new moment name keep reply last state holds small few = absurd (omega (arith, last, holds.next, small.next))

-- the run of a history and one entry more
run-push : (state : State) (history : History) (entry : Entry) → run state (history ++ entry ∷ []) ≡ (step (run state history) entry).0
run-push state [] entry = refl
run-push state (first ∷ history) entry = run-push (step state first).0 history entry

-- what is known of the states of all histories
pub record Known : Type 0 where
  pub limits_are : (limits : Limits) (history : History) → (state_of limits history).limits ≡ limits
  pub counted : (limits : Limits) (history : History) → All (λ (entry : Entry). IsBounded entry.event) history → IsCounted (length history) (state_of limits history)

-- the shards of the contexts after a short history can be counted
few_shards : (n : ℕ) (state : State) → IsCounted n state → n < MOST_ENTRIES → sum_by (λ (context : Context). length context.view.shards) state.contexts ≤ 18446744073709551615
few_shards n state counted short =
    let all = sum_by-le (λ (context : Context). length context.view.shards) 1024 state.contexts
    (All-weaker (λ (context : Context). IsViewSmall context.view) (λ (context : Context). length context.view.shards ≤ 1024) (λ context is. is.few) state.contexts counted.views) in
    omega (arith, all, counted.many)

-- a state after a short history is small, at any moment
known_small : Known → (limits : Limits) (history : History) (moment : ℕ) → All (λ (entry : Entry). IsBounded entry.event) history → length history < MOST_ENTRIES
    → HasSmallNumbers (at_moment (state_of limits history) moment)
known_small known limits history moment bounded short =
    let counted : IsCounted (length history) (state_of limits history) = known.counted limits history bounded in
    record {
      numbers = All-weaker (IsCountedIndex (length history)) (λ (index : Index). AreNumbered most_entries index.shards)
          (λ index numbered. All-weaker (λ (shard : Shard). last_number shard ≤ length history) (λ (shard : Shard). last_number shard ≤ most_entries) (λ shard l. omega arith) index.shards numbered.numbers)
          (state_of limits history).indexes counted.indexes;
      next = omega (arith, counted.next);
      differ = counted.sound.numbers_rise;
      shards = few_shards (length history) (state_of limits history) counted short;
    }

-- a core that stands for a history holds its state at a later moment
stands_holds : Known → (limits : Limits) (core : Core) (history : History) (moment : ℕ) → Stands limits core history
    → Holds core (max core.moment moment) (at_moment (state_of limits history) moment)
stands_holds known limits core history moment stands = record {
  limits_are = stands.limits_are ∙ sym (known.limits_are limits history);
  moment_is = ap (λ at. max at moment) (sym stands.moment);
  next = stands.next;
  indexes = stands.indexes;
  contexts = λ later l. stands.contexts later (omega (arith, stands.moment));
}

-- the core is another at this moment, and no more has changed
pub record IsMoved (old new : Core) (moment : ℕ) : Type 0 where
  pub moment_is : new.moment ≡ moment
  pub limits_are : new.limits ≡ old.limits
  pub next : new.next ≡ old.next
  pub indexes : new.catalog ≡ old.catalog
  pub book : new.book ≡ old.book

-- the step of an entry makes a core stand for the history and the entry
pub turn_stands : Known → (old stepped new : Core) (event : Event) (moment later : ℕ) (reply : Reply) → later ≡ max old.moment moment
    → Steps old stepped later event reply → Lends old.book.contexts stepped.book.contexts → IsMoved stepped new later → PutsObject event → IsBounded event
    → (limits : Limits) (history : History) (who : ℕ) → Stands limits old history → length history < MOST_ENTRIES
    → Stands limits new (history ++ record { who = who; moment = moment; event = event } ∷ [])
    × (reply ≡ reply_of limits history (record { who = who; moment = moment; event = event }))
turn_stands known old stepped new event moment later reply is steps lends moved object bounded limits history who stands short =
    let entry : Entry = record { who = who; moment = moment; event = event } in
    let next : State = (step (state_of limits history) entry).0 in
    let reached : state_of limits (history ++ entry ∷ []) ≡ next = run-push (start limits) history entry in
    let before : Holds old later (at_moment (state_of limits history) moment) =
    subst (λ (at : ℕ). Holds old at (at_moment (state_of limits history) moment)) (sym is) (stands_holds known limits old history moment stands) in
    let done = steps (at_moment (state_of limits history) moment) before (known_small known limits history moment stands.bounded short) (lent_few (length history) old.book.contexts short stands.lent) in
    let holds : Holds stepped later next = done.0 in (
      record {
        limits_are = moved.limits_are ∙ holds.limits_are ∙ ap (λ (it : State). it.limits) (sym reached) ∙ known.limits_are limits (history ++ entry ∷ []);
        moment = moved.moment_is ∙ sym holds.moment_is ∙ ap (λ (it : State). it.moment) (sym reached);
        next = moved.next ∙ holds.next ∙ ap (λ (it : State). it.next) (sym reached);
        indexes = moved.indexes ∙ holds.indexes ∙ ap (λ (it : State). it.indexes) (sym reached);
        contexts = λ at l.
            let from : later ≤ at = omega (arith, holds.moment_is, ap (λ (it : State). it.moment) reached) in
            ap (λ (it : Book). filter (is_live at) (contexts_seen it.contexts)) moved.book ∙ holds.contexts at from ∙ ap (λ (it : State). filter (is_live at) it.contexts) (sym reached);
        lent = subst (λ (it : Book). AllLent (length (history ++ entry ∷ [])) it.contexts) (sym moved.book)
            (lent_next (length history) (length (history ++ entry ∷ [])) old.book.contexts stepped.book.contexts (length-append history (entry ∷ [])) lends stands.lent);
        objects = All-push (λ (it : Entry). PutsObject it.event) history entry stands.objects object;
        bounded = All-push (λ (it : Entry). IsBounded it.event) history entry stands.bounded bounded;
      },
      done.1,
    )

-- a core that is seen as before stands for what it stood for
pub same_stands : (old new : Core) → IsSame old new → StandsOn old new
same_stands old new same limits history stands = record {
  limits_are = same.limits_are ∙ stands.limits_are;
  moment = same.moment ∙ stands.moment;
  next = same.next ∙ stands.next;
  indexes = same.indexes ∙ stands.indexes;
  contexts = λ moment l. ap (λ (it : Book). filter (is_live moment) (contexts_seen it.contexts)) same.book ∙ stands.contexts moment l;
  lent = subst (λ (it : Book). AllLent (length history) it.contexts) (sym same.book) stands.lent;
  objects = stands.objects;
  bounded = stands.bounded;
}

-- ---- quiets

-- a quiet changes nothing that a state says, and what is no longer live may go
quiet_steps : (old new : Core) (moment : ℕ) → IsKeptCore old new
    → ((later : ℕ) → moment ≤ later → filter (is_live later) (contexts_seen new.book.contexts) ≡ filter (is_live later) (contexts_seen old.book.contexts))
    → Steps old new moment Quiet Done
quiet_steps old new moment same alike state holds small few =
    (contexts_hold old new moment state state.contexts same holds (λ later from. alike later from ∙ holds.contexts later from), refl)

-- what is live after a chore is what was live
left_alike : (chore : Chore) (moment later : ℕ) (contexts : List Kept) → moment ≤ later
    → filter (is_live later) (contexts_seen (left_by chore moment contexts)) ≡ filter (is_live later) (contexts_seen contexts)
left_alike Reap moment later contexts from =
    ap (filter (is_live later)) (reaped_seen moment contexts) ∙ live_again moment later (contexts_seen contexts) from
left_alike (NoteEnd number end) moment later contexts from = refl

-- so a core that does a chore stands for one Quiet more
pub quiet_rests : Known → (old new : Core) (chore : Chore) (moment later : ℕ) → later ≡ max old.moment moment → IsKeptCore old new → new.moment ≡ later
    → new.book ≡ record old.book { contexts = left_by chore later old.book.contexts } → Rests old new moment
quiet_rests known old new chore moment later is same moved now limits history who stands short =
    let contexts : new.book.contexts ≡ left_by chore later old.book.contexts = ap (λ (it : Book). it.contexts) now in
    (turn_stands known old new new Quiet moment later Done is
    (quiet_steps old new later same (λ at from. ap (λ them. filter (is_live at) (contexts_seen them)) contexts ∙ left_alike chore later at old.book.contexts from))
    (subst (Lends old.book.contexts) (sym contexts) (lends_left chore later old.book.contexts))
    (record { moment_is = moved; limits_are = refl; next = refl; indexes = refl; book = refl }) tt tt limits history who stands short).0
