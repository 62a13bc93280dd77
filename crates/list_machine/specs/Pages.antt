-- Pages of a point in time that are taken in turn.
use Rattle.std.specs.Prelude.{◌≡◌, ℕ, ◌<◌, Bool, ◌||◌, List, [], ◌∷◌, ◌++◌, length, map, flat_map, Option, Some, None, IsTrue}
use Rattle.es_types.specs.declared.row.Value.{Value}
use Rattle.es_query.specs.declared.query.Query.{Query}
use Rattle.es_sort.specs.declared.sort.Keys.{Keys}
use Rattle.es_sort.specs.declared.sort.SortSpec.{SortSpec}
use Rattle.es_sort.specs.Keys.{lists_place}
use Rattle.slice_rule.specs.declared.slice.Slice.{Slice}
use Rattle.list_machine.specs.declared.event.Entry.{Entry}
use Rattle.list_machine.specs.declared.event.Event.TheVariants.{OpenPit, Search}
use Rattle.list_machine.specs.declared.event.Target.TheVariants.{Pit}
use Rattle.list_machine.specs.declared.event.Reply.TheVariants.{Opened, Found}
use Rattle.list_machine.specs.declared.event.Limits.{Limits}
use Rattle.list_machine.specs.declared.page.request.SearchRequest.{SearchRequest}
use Rattle.list_machine.specs.declared.page.request.Answer.{Answer}
use Rattle.list_machine.specs.declared.page.request.Hit.{Hit}
use Rattle.list_machine.specs.Views.{View, enumeration, hit}
use Rattle.list_machine.specs.State.{Index, index_of, view_of}
use Rattle.list_machine.specs.Run.{History, state_of, reply_of, Occurs}

-- a search of the point in time with that number, and the page that it was answered
pub record Turn (limits : Limits) (history : History) (number : ℕ) : Type 0 where
  pub before : History
  pub entry : Entry
  pub keep : Option ℕ
  pub request : SearchRequest
  pub answer : Answer
  pub stands : Occurs history before entry
  pub searches : entry.event ≡ Search (Pit number keep) request
  pub found : reply_of limits before entry ≡ Found answer

-- the values of the page's last hit, after which the next page begins
pub record EndsAt (hits : List Hit) (after : List Value) : Type 0 where
  pub front : List Hit
  pub last : Hit
  pub are : hits ≡ front ++ last ∷ []
  pub shows : last.shown ≡ after

-- the later search begins after the last hit of the earlier one
pub record Follows {limits : Limits} {history : History} {number : ℕ} (earlier later : Turn limits history number) : Type 0 where
  pub order : length earlier.before < length later.before
  pub after : Keys
  pub ends : EndsAt earlier.answer.hits after.values
  pub begins : later.request.after ≡ Some after

-- the search asks for that query in the order of that sort, of that slice if of one, and leaves out no hit
pub record Asks {limits : Limits} {history : History} {number : ℕ} (query : Query) (sort : SortSpec) (slice : Option Slice) (turn : Turn limits history number) : Type 0 where
  pub query_is : turn.request.query ≡ query
  pub sort_is : turn.request.sort ≡ sort
  pub slice_is : turn.request.slice ≡ slice
  pub whole : turn.request.from ≡ 0

abbrev pub GoesOn : {limits : Limits} {history : History} {number : ℕ} → Query → SortSpec → Option Slice → Turn limits history number → List (Turn limits history number) → Type 0
GoesOn query sort slice turn [] = Unit {0}
GoesOn query sort slice turn (next ∷ turns) = Follows turn next × Asks query sort slice next × GoesOn query sort slice next turns

-- pages of one query, sort and slice in turn: the first begins at the front, and each later one after the one before
abbrev pub InTurn : {limits : Limits} {history : History} {number : ℕ} → Query → SortSpec → Option Slice → List (Turn limits history number) → Type 0
InTurn query sort slice [] = Unit {0}
InTurn query sort slice (turn ∷ turns) = (turn.request.after ≡ None) × Asks query sort slice turn × GoesOn query sort slice turn turns

-- a hit shows its place, as a key of the sort or after them
abbrev pub shows_place : SortSpec → Bool
shows_place sort = sort.show_place || lists_place sort.keys

-- the hits of the pages, joined
abbrev pub all_hits : {limits : Limits} {history : History} {number : ℕ} → List (Turn limits history number) → List Hit
all_hits turns = flat_map (λ turn. turn.answer.hits) turns

-- the last page has fewer hits than it was asked for
abbrev pub EndsShort : {limits : Limits} {history : History} {number : ℕ} → List (Turn limits history number) → Type 0
EndsShort [] = ⊥
EndsShort (turn ∷ []) = length turn.answer.hits < turn.request.size
EndsShort (turn ∷ next ∷ turns) = EndsShort (next ∷ turns)

-- the view that a point in time got at its opening
pub record Opens (limits : Limits) (history : History) (number : ℕ) (view : View) : Type 0 where
  pub before : History
  pub entry : Entry
  pub index : List ℕ
  pub keep : ℕ
  pub found : Index
  pub stands : Occurs history before entry
  pub opens : entry.event ≡ OpenPit index keep
  pub opened : reply_of limits before entry ≡ Opened number
  pub there : index_of index (state_of limits before).indexes ≡ Some found
  pub sees : view ≡ view_of found

-- all documents of a view that match, of a slice if of one, in the order of a sort, with what they show
abbrev pub documents : View → Query → SortSpec → Option Slice → List Hit
documents view query sort slice = map (hit view sort) (enumeration view query sort slice)

-- Pages of a point in time taken in turn are a prefix of the sorted matching documents of the frozen view, and all
-- of them once a page is short.
abbrev pub PitsInTurn : Limits → History → Type 0
PitsInTurn limits history =
    (number : ℕ) (view : View) (query : Query) (sort : SortSpec) (slice : Option Slice) (turns : List (Turn limits history number))
    → Opens limits history number view → IsTrue (shows_place sort) → InTurn query sort slice turns
    → (rest : List Hit) × (documents view query sort slice ≡ all_hits turns ++ rest) × (EndsShort turns → rest ≡ [])

-- what pages that are taken in turn show, in each way that they can be taken
pub record Enumerates (limits : Limits) (history : History) : Type 0 where
  pub pits : PitsInTurn limits history
