-- What turns hand out to be run outside the core, and what the running gives.
use Rattle.std.specs.Prelude.{◌≡◌, ℕ, ◌+◌, ◌*◌, ◌==◌, Bool, true, false, if◌then◌else◌, List, filter, map, Option, None, Some, MatchOption, option_map}
use Rattle.reader_gate.specs.Readers.{Held}
use Rattle.context_book.specs.declared.context.Context.{Context as Kept}
use Rattle.context_book.specs.declared.context.PageEnd.{PageEnd}
use Rattle.context_book.specs.Books.{is_kept, live_one}
use Rattle.context_book.specs.Calls.{lent_by, touched}
use Rattle.list_machine.specs.declared.event.Event.{Event}
use Rattle.list_machine.specs.declared.event.Event.TheVariants.{Close, Create, OpenPit, Publish, Quiet, Seal, Search, Write}
use Rattle.list_machine.specs.declared.event.Target.TheVariants.{Index as IndexTarget, Pit}
use Rattle.list_machine.specs.declared.event.Reply.{Reply}
use Rattle.list_machine.specs.declared.event.Reply.TheVariants.{Done, Wrote, Sealed, Opened, Found, Closed, Spent, NoIndex, Exists, Missing, BadDoc, BadQuery, BadSort, BadAfter, TooMany, ShardFull}
use Rattle.list_machine.specs.declared.page.request.SearchRequest.{SearchRequest}
use Rattle.list_machine.specs.Run.{IsWithinLimits}
use Rattle.list_machine.specs.State.{Index, index_of, view_of}
use Rattle.list_machine.specs.Views.{View, answer}
use Rattle.es_core.specs.Contexts.{LeavesOpened}
use Rattle.es_core.specs.declared.turned.Plan.{Plan}
use Rattle.es_core.specs.declared.turned.Plan.TheVariants.{Page}
use Rattle.es_core.specs.declared.turned.Turned.{Turned}
use Rattle.es_core.specs.declared.turned.Turned.TheVariants.{Now, Later}

-- no page was taken yet
abbrev pub no_end : PageEnd
no_end = record { pages = 0; after = None }

-- a page has none before it, and is no scroll's
pub record IsFirst (pages : ℕ) (end : PageEnd) (scroll : ℕ) : Type 0 where
  pub pages_are : pages ≡ 0
  pub end_is : end ≡ no_end
  pub scroll_is : scroll ≡ 0

-- the plan of a search, by a pass of its view
abbrev pub first_page : Held View → SearchRequest → Plan
first_page pass request = Page pass request 0 no_end 0

-- it is the plan of a search of that view
abbrev pub IsFirstPage : View → SearchRequest → Plan → Type 0
IsFirstPage view request (Page pass asked pages end scroll) = (pass.body ≡ view) × ((asked ≡ request) × IsFirst pages end scroll)

-- How many hits come before a page: as many as a search leaves out, and in a scroll, which has a number, those of the pages before it.
abbrev pub hits_before : ℕ → ℕ → SearchRequest → ℕ
hits_before scroll pages request = if scroll == 0 then request.from else pages * request.size

-- what the running of a plan answers, which nothing but the plan says
abbrev pub plan_reply : Plan → Reply
plan_reply (Page pass request pages end scroll) = Found (answer pass.body request (hits_before scroll pages request))

-- what a turn answers, at once or by the running of its plan
abbrev pub turned_reply : Turned → Reply
turned_reply (Now reply) = reply
turned_reply (Later plan) = plan_reply plan

-- a plan can be run: the request is within the limits of one, and no page was taken before
abbrev pub CanRun : Plan → Type 0
CanRun (Page pass request pages end scroll) = IsWithinLimits request × IsFirst pages end scroll

abbrev pub CanAnswer : Turned → Type 0
CanAnswer (Now reply) = Unit {0}
CanAnswer (Later plan) = CanRun plan

-- whether a search was answered
abbrev pub is_found : Reply → Bool
is_found Done = false
is_found (Wrote result seq) = false
is_found (Sealed numbers) = false
is_found (Opened number) = false
is_found (Found answer) = true
is_found (Closed freed) = false
is_found Spent = false
is_found NoIndex = false
is_found Exists = false
is_found Missing = false
is_found (BadDoc fault) = false
is_found BadQuery = false
is_found BadSort = false
is_found BadAfter = false
is_found (TooMany limit) = false
is_found ShardFull = false

-- A search that isn't refused gets a plan, which asks for what the search asks. None is answered at once.
abbrev pub IsPlanned : SearchRequest → Turned → Type 0
IsPlanned request (Now reply) = is_found reply ≡ false
IsPlanned request (Later (Page pass asked pages end scroll)) = (asked ≡ request) × IsFirst pages end scroll

-- a plan's pass is of that view
abbrev pub IsOfView : Option View → Turned → Type 0
IsOfView view (Now reply) = Unit {0}
IsOfView view (Later (Page pass asked pages end scroll)) = view ≡ Some pass.body

-- the contexts once the one of a number is kept longer, where that is asked
abbrev pub kept_on : ℕ → ℕ → Option ℕ → List Kept → List Kept
kept_on number moment None contexts = contexts
kept_on number moment (Some keep) contexts = map (touched number (moment + keep)) contexts

-- What a search of a context leaves: where it is refused all as it was. With a plan its owner, whose pass that is, of its reader and its
-- view, has lent one more, and it is kept longer where that is asked.
abbrev pub Leaves : ℕ → ℕ → Option ℕ → List Kept → List Kept → Turned → Type 0
Leaves number moment keep old new (Now reply) = new ≡ old
Leaves number moment keep old new (Later (Page pass asked pages end scroll)) =
    MatchOption (live_one number moment old) ⊥ (λ (context : Kept). (pass.reader ≡ context.owner.reader) × (pass.body ≡ context.owner.body))
    × (new ≡ kept_on number moment keep (map (lent_by number) old))

-- it is answered at once
abbrev pub IsAtOnce : Turned → Type 0
IsAtOnce (Now reply) = Unit {0}
IsAtOnce (Later plan) = ⊥

-- an opening is, with or without one context more
abbrev pub Opens : Option View → ℕ → List Kept → List Kept → Turned → Type 0
Opens view expiry old new (Now reply) = LeavesOpened view expiry old new reply
Opens view expiry old new (Later plan) = ⊥

-- What an event hands out, and leaves of the contexts of a book, where the core has these indexes: a search hands out a plan, and no other
-- event does. An opening adds a context at the end, a closing takes out those that it closes, a search of one lends and keeps longer, and
-- nothing else becomes of them.
abbrev pub HandsOut : Event → ℕ → List Index → List Kept → List Kept → Turned → Type 0
HandsOut (Create index shards mapping) moment indexes old new turned = IsAtOnce turned × (new ≡ old)
HandsOut (Write index id change) moment indexes old new turned = IsAtOnce turned × (new ≡ old)
HandsOut (Seal index) moment indexes old new turned = IsAtOnce turned × (new ≡ old)
HandsOut (Publish index shard upto) moment indexes old new turned = IsAtOnce turned × (new ≡ old)
HandsOut (OpenPit index keep) moment indexes old new turned = Opens (option_map view_of (index_of index indexes)) (moment + keep) old new turned
HandsOut (Search (IndexTarget index) request) moment indexes old new turned =
    IsPlanned request turned × (IsOfView (option_map view_of (index_of index indexes)) turned × (new ≡ old))
HandsOut (Search (Pit number keep) request) moment indexes old new turned = IsPlanned request turned × Leaves number moment keep old new turned
HandsOut (Close which) moment indexes old new turned = IsAtOnce turned × (new ≡ filter (is_kept moment which) old)
HandsOut Quiet moment indexes old new turned = IsAtOnce turned × (new ≡ old)
