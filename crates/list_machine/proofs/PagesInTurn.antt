-- Pages of a point in time that are taken in turn.
use Rattle.std.proofs.Common.{◌≡◌, ℕ, true, ◌<◌, ◌≤◌, ⊎_elim, List, [], ◌∷◌, ◌++◌, length, map, take, drop, Option, Some, None, All, filter, bytes_eq, refl, sym, ap, ap₂, ◌∙◌, subst, arith, append_assoc, append-nil, length-append, take-append-drop, length-take}
use Rattle.std.specs.Option.{option_map}
use Rattle.std.proofs.lemmas.Bool.{cases_lt}
use Rattle.std.proofs.lemmas.List.{map-append, length-map, drop_all}
use Rattle.std.proofs.lemmas.List.Elements.{All-map, All-weaker}
use Rattle.es_types.specs.declared.row.Row.{Row}
use Rattle.es_types.specs.declared.row.Value.{Value}
use Rattle.es_query.specs.declared.query.Query.{Query}
use Rattle.es_sort.specs.declared.sort.Keys.{Keys}
use Rattle.es_sort.specs.declared.sort.SortSpec.{SortSpec}
use Rattle.slice_rule.specs.declared.slice.Slice.{Slice}
use Rattle.list_machine.specs.declared.event.Entry.{Entry}
use Rattle.list_machine.specs.declared.event.Event.{Event}
use Rattle.list_machine.specs.declared.event.Limits.{Limits}
use Rattle.list_machine.specs.declared.page.request.Hit.{Hit}
use Rattle.list_machine.specs.Rows.{Shard}
use Rattle.list_machine.specs.Views.{View, Place, HasPlaces, is_past, hit, answer, enumeration, shown_at}
use Rattle.list_machine.specs.State.{State, Index, Context, IsSoundShard, context_of, view_of}
use Rattle.list_machine.specs.Step.{open_pit, happen, at_moment, step}
use Rattle.list_machine.specs.Run.{History, run, state_of}
use Rattle.list_machine.specs.Pages.{Asks, Turn, Opens, EndsAt, GoesOn, InTurn, all_hits, EndsShort, Enumerates, PitsInTurn, shows_place}
use Rattle.list_machine.proofs.ContextMoves.{Named, named, named_found, named_of}
use Rattle.list_machine.proofs.Moves.{find_All, opened}
use Rattle.list_machine.proofs.Sound.{state_sound}
use Rattle.list_machine.proofs.Runs.{run_later, run-append}
use Rattle.list_machine.proofs.Contexts.{found_later, none_above, opening_cases, found_next, search_cases, cut_twice}
use Rattle.list_machine.proofs.Ordered.{KeyLaws, enumeration_rises}
use Rattle.list_machine.proofs.Beyond.{AreInOrder, beyond_place, beyond_nothing}

-- what an opening does: its number is the next one, and its context is found by it, with the view
opens_is : (limits : Limits) (history : History) (number : ℕ) (view : View) (o : Opens limits history number view) → ((state_of limits o.before).next ≡ number)
    × (named_of number (map named (step (state_of limits o.before) o.entry).0.contexts) ≡ Some (record { number = number; view = view }))
opens_is limits history number view o =
    let state : State = at_moment (state_of limits o.before) o.entry.moment in
    let is : step (state_of limits o.before) o.entry ≡ open_pit state o.keep (Some o.found) = ap (happen state) o.opens ∙ ap (open_pit state o.keep) o.there in
    let did = opening_cases _ state o.keep o.found number (step (state_of limits o.before) o.entry) is o.opened in
    let made = (opened state o.keep o.found).contexts in
    let there : named_of state.next (map named made) ≡ Some (record { number = state.next; view = view_of o.found }) =
    named_found state.next made ∙ ap (option_map named) (found_next state o.keep o.found (state_sound limits o.before).issued) in (
      did.0,
      ap (λ (s : State). named_of number (map named s.contexts)) did.1
          ∙ subst (λ n. named_of n (map named made) ≡ Some (record { number = n; view = view_of o.found })) did.0 there
          ∙ ap (λ (v : View). Some (record { number = number; view = v })) (sym o.sees),
    )

-- after its opening a context is found
finds_behind : (limits : Limits) (before now : History) (entry : Entry) (number : ℕ) (it : Named) → named_of number (map named (step (state_of limits before) entry).0.contexts) ≡ Some it → (rest after more : History) → now ≡ before ++ rest → entry ∷ after ≡ rest ++ more → length before < length now
    → named_of number (map named (state_of limits now).contexts) ≡ Some it
finds_behind limits before now entry number it found [] after more e f l = absurd (omega (arith, ap length e, length-append before []))
finds_behind limits before now entry number it found (first ∷ rest) after more e f l =
    let same : first ≡ entry = cc in
    let state : State = (step (state_of limits before) entry).0 in
    let is : state_of limits now ≡ run state rest = ap (state_of limits) e ∙ run-append before (first ∷ rest) _ ∙ ap (λ x. run (step (state_of limits before) x).0 rest) same in
    ap (λ (s : State). named_of number (map named s.contexts)) is ∙ found_later state (run state rest) number it (run_later rest state) found

-- before its opening it is not
none_before : (limits : Limits) (before now : History) (number : ℕ) → (state_of limits before).next ≡ number → (rest : History) → before ≡ now ++ rest → context_of number (state_of limits now).contexts ≡ None
none_before limits before now number next rest e =
    let is : state_of limits before ≡ run (state_of limits now) rest = ap (state_of limits) e ∙ run-append now rest _ in
    let later = run_later rest (state_of limits now) in
    let upto : (state_of limits before).next ≡ (run (state_of limits now) rest).next = ap (λ (s : State). s.next) is in
    none_above (state_of limits now).contexts (state_of limits now).next number (omega (arith, later.next, upto, next)) (state_sound limits now).issued

-- what a turn finds is an answer of a context of its number
turn_finds : (limits : Limits) (history : History) (number : ℕ) (turn : Turn limits history number) → (context : Context) × (context_of number (state_of limits turn.before).contexts ≡ Some context) × (turn.answer ≡ answer context.view turn.request turn.request.from)
turn_finds limits history number turn =
    let state : State = at_moment (state_of limits turn.before) turn.entry.moment in
    search_cases state number turn.keep turn.request (context_of number state.contexts) turn.answer
    (sym (ap (λ (event : Event). (happen state event).1) turn.searches) ∙ turn.found)

-- each turn is answered from the view that the point in time got at its opening
turn_answer : (limits : Limits) (history : History) (number : ℕ) (view : View) → Opens limits history number view → (turn : Turn limits history number) → turn.answer ≡ answer view turn.request turn.request.from
turn_answer limits history number view o turn =
    let did = opens_is limits history number view o in
    let finds = turn_finds limits history number turn in
    let both : o.before ++ o.entry ∷ o.stands.after ≡ turn.before ++ turn.entry ∷ turn.stands.after = sym o.stands.is ∙ turn.stands.is in
    ⊎_elim
    (λ (l : length o.before < length turn.before).
    let cut = cut_twice o.before turn.before (o.entry ∷ o.stands.after) (turn.entry ∷ turn.stands.after) both (omega (arith, l)) in
    let it : Named = record { number = number; view = view } in
    let there = finds_behind limits o.before turn.before o.entry number it did.1 cut.0 o.stands.after (turn.entry ∷ turn.stands.after) cut.1 cut.2 l in
    let both_are : Some (named finds.0) ≡ Some it = sym (named_found number (state_of limits turn.before).contexts ∙ ap (option_map named) finds.1) ∙ there in
    let same : named finds.0 ≡ it = cc (both_are) in
    finds.2 ∙ ap (λ v. answer v turn.request turn.request.from) (ap (λ (n : Named). n.view) same))
    (λ (l : length turn.before ≤ length o.before).
    let cut = cut_twice turn.before o.before (turn.entry ∷ turn.stands.after) (o.entry ∷ o.stands.after) (sym both) l in
    let none = none_before limits o.before turn.before number did.0 cut.0 cut.1 in
    absurd (cc (finds.1, none)))
    (cases_lt (length o.before) (length turn.before))

-- the shards of such a view are not over-full
view_few : (limits : Limits) (history : History) (number : ℕ) (view : View) → Opens limits history number view → HasPlaces view
view_few limits history number view o =
    let was : All IsSoundShard o.found.shards = find_All (λ (index : Index). All IsSoundShard index.shards) (λ (index : Index). bytes_eq index.name o.index) (state_of limits o.before).indexes o.found (state_sound limits o.before).shards o.there in
    let few = All-map (λ (rows : List Row). length rows ≤ 4294967296) (λ (shard : Shard). shard.rows) o.found.shards
    (All-weaker IsSoundShard (λ (shard : Shard). length shard.rows ≤ 4294967296) (λ shard s. omega (arith, s.few)) o.found.shards was) in
    subst (λ (v : View). All (λ (rows : List Row). length rows ≤ 4294967296) v.shards) (sym o.sees) few

-- the last of what a function made of a list comes from its last
map_last : {X Y : Type 0} (f : X → Y) (xs : List X) (front : List Y) (last : Y) → map f xs ≡ front ++ last ∷ [] → (before : List X) × (x : X) × (xs ≡ before ++ x ∷ []) × (f x ≡ last)
map_last f [] [] last e = absurd (cc)
map_last f [] (y ∷ front) last e = absurd (cc)
map_last f (x ∷ []) [] last e = ([], x, refl, cc)
map_last f (x ∷ z ∷ xs) [] last e = absurd (cc)
map_last f (x ∷ xs) (y ∷ front) last e =
    let tails : map f xs ≡ front ++ last ∷ [] = cc in
    let r = map_last f xs front last tails in
    (x ∷ r.0, r.1, ap (λ t. x ∷ t) r.2, r.3)

-- a short page has all that was left
short_page : (view : View) (sort : SortSpec) (size : ℕ) (places : List Place) → length (map (hit view sort) (take size places)) < size → map (hit view sort) (drop size places) ≡ []
short_page view sort size places l =
    ap (map (hit view sort)) (drop_all size places (omega (arith, l, length-map (take size places) (hit view sort), length-take size places)))

-- a page, and the hits after it
page_and_rest : (view : View) (sort : SortSpec) (size : ℕ) (places : List Place) → map (hit view sort) places ≡ map (hit view sort) (take size places) ++ map (hit view sort) (drop size places)
page_and_rest view sort size places =
    ap (map (hit view sort)) (sym (take-append-drop size places)) ∙ map-append (hit view sort) (take size places) (drop size places)

-- a page's last place, with what stands around it
page_end : (view : View) (sort : SortSpec) (size : ℕ) (front places : List Place) (hits : List Hit) (after : List Value) → hits ≡ map (hit view sort) (take size places) → EndsAt hits after
    → (before : List Place) × (place : Place) × (after ≡ shown_at view sort place) × (front ++ places ≡ (front ++ before) ++ place ∷ drop size places)
page_end view sort size front places hits after e ends =
    let r = map_last (hit view sort) (take size places) ends.front ends.last (sym e ∙ ends.are) in
    let shown : shown_at view sort r.1 ≡ after = ap (λ (h : Hit). h.shown) r.3 ∙ ends.shows in
    let cut : places ≡ r.0 ++ r.1 ∷ drop size places =
    sym (take-append-drop size places) ∙ ap (λ t. t ++ drop size places) r.2 ∙ append_assoc r.0 (r.1 ∷ []) (drop size places) in
    (r.0, r.1, sym shown, ap (λ t. front ++ t) cut ∙ sym (append_assoc front r.0 (r.1 ∷ drop size places)))

-- the pages of a point in time are of its view, and the sort shows its places, of which each comes before those after it
record Chain (limits : Limits) (history : History) (number : ℕ) (view : View) (query : Query) (sort : SortSpec) (slice : Option Slice) : Type 0 where
  each : (turn : Turn limits history number) → turn.answer ≡ answer view turn.request turn.request.from
  laws : KeyLaws
  shows : shows_place sort ≡ true
  ordered : AreInOrder view sort (enumeration view query sort slice)

-- the hits of such a page, with their places
hits_are : {limits : Limits} {history : History} {number : ℕ} {view : View} {query : Query} {sort : SortSpec} {slice : Option Slice} → Chain limits history number view query sort slice → (turn : Turn limits history number) → Asks query sort slice turn
    → turn.answer.hits ≡ map (hit view sort) (take turn.request.size (filter (is_past view sort turn.request.after) (enumeration view query sort slice)))
hits_are {limits} {history} {number} {view} {query} {sort} {slice} chain turn asks =
    ap (λ a. a.hits) (chain.each turn)
    ∙ ap (λ n. (answer view turn.request n).hits) asks.whole
    ∙ ap₂ (λ q s. map (hit view s) (take turn.request.size (filter (is_past view s turn.request.after) (enumeration view q s turn.request.slice)))) asks.query_is asks.sort_is
    ∙ ap (λ it. map (hit view sort) (take turn.request.size (filter (is_past view sort turn.request.after) (enumeration view query sort it)))) asks.slice_is

-- the first page is of all places
first_page : {limits : Limits} {history : History} {number : ℕ} {view : View} {query : Query} {sort : SortSpec} {slice : Option Slice} → Chain limits history number view query sort slice → (turn : Turn limits history number) → Asks query sort slice turn
    → turn.request.after ≡ None → turn.answer.hits ≡ map (hit view sort) (take turn.request.size (enumeration view query sort slice))
first_page {limits} {history} {number} {view} {query} {sort} {slice} chain turn asks begins =
    hits_are chain turn asks
    ∙ ap (λ t. map (hit view sort) (take turn.request.size t))
    (ap (λ a. filter (is_past view sort a) (enumeration view query sort slice)) begins ∙ beyond_nothing view sort (enumeration view query sort slice))

-- the page after a place is of what was left
next_page : {limits : Limits} {history : History} {number : ℕ} {view : View} {query : Query} {sort : SortSpec} {slice : Option Slice} → Chain limits history number view query sort slice → (turn : Turn limits history number) → Asks query sort slice turn
    → (front : List Place) (place : Place) (rest : List Place) → enumeration view query sort slice ≡ front ++ place ∷ rest
    → (after : Keys) → turn.request.after ≡ Some after → after.values ≡ shown_at view sort place → turn.answer.hits ≡ map (hit view sort) (take turn.request.size rest)
next_page {limits} {history} {number} {view} {query} {sort} {slice} chain turn asks front place rest all after begins shown =
    hits_are chain turn asks
    ∙ ap (λ t. map (hit view sort) (take turn.request.size t))
    (ap₂ (λ a ps. filter (is_past view sort a) ps) begins all ∙ beyond_place view sort chain.laws chain.shows front place rest (subst (AreInOrder view sort) all chain.ordered) after shown)

-- Where a turn's page is of the places that are left, the pages from it on are a prefix of the hits of those, and all once a page is short.
pages_from : {limits : Limits} {history : History} {number : ℕ} {view : View} {query : Query} {sort : SortSpec} {slice : Option Slice} → Chain limits history number view query sort slice
    → (turns : List (Turn limits history number)) (turn : Turn limits history number) (front places : List Place) → enumeration view query sort slice ≡ front ++ places → turn.answer.hits ≡ map (hit view sort) (take turn.request.size places)
    → GoesOn query sort slice turn turns → (rest : List Hit) × (map (hit view sort) places ≡ all_hits (turn ∷ turns) ++ rest) × (EndsShort (turn ∷ turns) → rest ≡ [])
pages_from {limits} {history} {number} {view} {query} {sort} {slice} chain [] turn front places all is on = (
  map (hit view sort) (drop turn.request.size places),
  page_and_rest view sort turn.request.size places ∙ ap (λ t. t ++ map (hit view sort) (drop turn.request.size places)) (sym is ∙ sym (append-nil turn.answer.hits)),
  λ short. short_page view sort turn.request.size places (subst (λ (hits : List Hit). length hits < turn.request.size) is short),
)
pages_from {limits} {history} {number} {view} {query} {sort} {slice} chain (next ∷ turns) turn front places all is on =
    let left = drop turn.request.size places in
    let end = page_end view sort turn.request.size front places turn.answer.hits on.0.after.values is on.0.ends in
    let whole = all ∙ end.3 in
    let moved : (front ++ end.0) ++ end.1 ∷ left ≡ ((front ++ end.0) ++ end.1 ∷ []) ++ left = sym (append_assoc (front ++ end.0) (end.1 ∷ []) left) in
    let page = next_page chain next on.1 (front ++ end.0) end.1 left whole on.0.after on.0.begins end.2 in
    let r = pages_from chain turns next ((front ++ end.0) ++ end.1 ∷ []) left (whole ∙ moved) page on.2 in (
      r.0,
      page_and_rest view sort turn.request.size places ∙ ap₂ (λ a b. a ++ b) (sym is) r.1 ∙ sym (append_assoc turn.answer.hits (all_hits (next ∷ turns)) r.0),
      r.2,
    )

-- pages in turn, of the places of a view in order
pages_all : {limits : Limits} {history : History} {number : ℕ} {view : View} {query : Query} {sort : SortSpec} {slice : Option Slice} → Chain limits history number view query sort slice
    → (turns : List (Turn limits history number)) → InTurn query sort slice turns → (rest : List Hit) × (map (hit view sort) (enumeration view query sort slice) ≡ all_hits turns ++ rest) × (EndsShort turns → rest ≡ [])
pages_all {limits} {history} {number} {view} {query} {sort} {slice} chain [] on = (map (hit view sort) (enumeration view query sort slice), refl, λ short. absurd short)
pages_all {limits} {history} {number} {view} {query} {sort} {slice} chain (turn ∷ turns) on =
    pages_from chain turns turn [] (enumeration view query sort slice) refl (first_page chain turn on.1 on.0) on.2

-- pages in turn, in every history
pits_in_turn : KeyLaws → (limits : Limits) (history : History) → PitsInTurn limits history
pits_in_turn laws limits history number view query sort slice turns opens shows on =
    let chain : Chain limits history number view query sort slice = record {
      each = turn_answer limits history number view opens;
      laws = laws;
      shows = shows;
      ordered = enumeration_rises laws view query sort slice (view_few limits history number view opens);
    } in
    pages_all chain turns on

pub enumerates : KeyLaws → (limits : Limits) (history : History) → Enumerates limits history
enumerates laws limits history = record { pits = pits_in_turn laws limits history }
