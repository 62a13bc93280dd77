-- What is done with the points in time of a core, and what a search of one is answered.
use Rattle.std.specs.Prelude.{◌≡◌, ℕ, ◌<◌, ◌≤◌, ◌==◌, min, Bool, true, false, if◌then◌else◌, List, [], ◌∷◌, ◌++◌, map, filter, count_by, find, All, Option, Some, None}
use Rattle.es_types.specs.declared.limits.TheConstants.{MOST_ENTRIES}
use Rattle.context_book.specs.declared.context.Context.{Context as Kept}
use Rattle.context_book.specs.Books.{has_ended, is_closed, lives, seen}
use Rattle.reader_gate.specs.Readers.{Owned}
use Rattle.list_machine.specs.declared.event.Event.{Event}
use Rattle.list_machine.specs.declared.event.Event.TheVariants.{Close, Create, OpenPit, Publish, Quiet, Seal, Search, Write}
use Rattle.list_machine.specs.declared.event.Reply.{Reply}
use Rattle.list_machine.specs.declared.event.Reply.TheVariants.{Done, Wrote, Sealed, Opened, Found, Closed, Spent, NoIndex, Exists, Missing, BadDoc, BadQuery, BadSort, BadAfter, TooMany, ShardFull}
use Rattle.list_machine.specs.declared.event.Which.{Which}
use Rattle.list_machine.specs.declared.page.request.SearchRequest.{SearchRequest}
use Rattle.list_machine.specs.State.{Context, is_live, pit}
use Rattle.list_machine.specs.Step.{freed, is_fit, keep_one, search_reply}
use Rattle.list_machine.specs.Views.{View}
use Rattle.es_core.specs.declared.turned.Chore.{Chore}
use Rattle.es_core.specs.declared.turned.Chore.TheVariants.{Reap, NoteEnd}

-- the contexts of a book as the machine has them
abbrev pub contexts_seen : List Kept → List Context
contexts_seen contexts = map seen contexts

-- what an opening makes of contexts, and its reply, where so many may be live
abbrev pub opening : ℕ → ℕ → View → ℕ → ℕ → List Context → List Context × Reply
opening moment number view expiry limit contexts =
    if count_by (is_live moment) contexts == limit
    then (contexts, TooMany limit)
    else (contexts ++ pit number view expiry ∷ [], Opened number)

-- the live context of that number
abbrev pub live_context : ℕ → ℕ → List Context → Option Context
live_context number moment contexts = find (λ context. context.number == number) (filter (is_live moment) contexts)

-- One more stands at the end, of that number and up to that moment, in a reader of its own over the view, of which nothing was lent.
pub record IsAdded (view : Option View) (number expiry : ℕ) (old new : List Kept) : Type 0 where
  pub owner : Owned View
  pub body : view ≡ Some owner.body
  pub unlent : owner.lent ≡ 0
  pub added : new ≡ old ++ record { number = number; owner = owner; expiry = expiry } ∷ []

-- What an opening leaves of the contexts: one more where it was opened, and all as they were where it was refused. It has no other reply.
abbrev pub LeavesOpened : Option View → ℕ → List Kept → List Kept → Reply → Type 0
LeavesOpened view expiry old new (Opened number) = IsAdded view number expiry old new
LeavesOpened view expiry old new Spent = new ≡ old
LeavesOpened view expiry old new NoIndex = new ≡ old
LeavesOpened view expiry old new (TooMany limit) = new ≡ old
LeavesOpened view expiry old new Done = ⊥
LeavesOpened view expiry old new (Wrote result seq) = ⊥
LeavesOpened view expiry old new (Sealed numbers) = ⊥
LeavesOpened view expiry old new (Found answer) = ⊥
LeavesOpened view expiry old new (Closed freed) = ⊥
LeavesOpened view expiry old new Exists = ⊥
LeavesOpened view expiry old new Missing = ⊥
LeavesOpened view expiry old new (BadDoc fault) = ⊥
LeavesOpened view expiry old new BadQuery = ⊥
LeavesOpened view expiry old new BadSort = ⊥
LeavesOpened view expiry old new BadAfter = ⊥
LeavesOpened view expiry old new ShardFull = ⊥

-- what a search of it answers
abbrev pub found : SearchRequest → Option Context → Reply
found request None = Missing
found request (Some context) = search_reply context.view request

-- whether a context was opened
abbrev pub is_opened : Reply → Bool
is_opened (Opened number) = true
is_opened other = false

-- whether that is an answer
abbrev pub is_answered : SearchRequest → Option Context → Bool
is_answered request None = false
is_answered request (Some context) = is_fit context.view request

-- the contexts after it: that of the number is kept longer, where that is asked
abbrev pub kept_on_answer : ℕ → ℕ → Option ℕ → Bool → List Context → List Context
kept_on_answer moment number None answered contexts = contexts
kept_on_answer moment number (Some keep) answered contexts = if answered then map (keep_one moment number keep) contexts else contexts

-- how many shards a closing frees, where that fits
abbrev pub freed_where_fit : ℕ → Which → List Context → ℕ
freed_where_fit moment which contexts = min (freed moment which contexts) 18446744073709551615

-- each owner has lent so many passes at most
abbrev pub AllLent : ℕ → List Kept → Type 0
AllLent n contexts = All (λ (context : Kept). context.owner.lent ≤ n) contexts

-- each owner has lent fewer than one may
abbrev pub AllCanLend : List Kept → Type 0
AllCanLend contexts = All (λ (context : Kept). context.owner.lent < MOST_ENTRIES) contexts

-- the contexts after a chore: at a reaping those that are live stay, and no other chore changes any
abbrev pub left_by : Chore → ℕ → List Kept → List Kept
left_by Reap moment contexts = filter (lives moment) contexts
left_by (NoteEnd number end) moment contexts = contexts

-- memory may run out at a reaping alone, where a context is no longer live
abbrev pub MayWant : Chore → ℕ → List Kept → Type 0
MayWant Reap moment contexts = 0 < count_by (has_ended moment) contexts
MayWant (NoteEnd number end) moment contexts = ⊥

-- so it may in a turn: not at a Quiet, at a closing only where it closes a context, and else anywhere
abbrev pub TurnMayWant : Event → ℕ → List Kept → Type 0
TurnMayWant (Create index shards mapping) moment contexts = Unit {0}
TurnMayWant (Write index id change) moment contexts = Unit {0}
TurnMayWant (Seal index) moment contexts = Unit {0}
TurnMayWant (Publish index shard upto) moment contexts = Unit {0}
TurnMayWant (OpenPit index keep) moment contexts = Unit {0}
TurnMayWant (Search target request) moment contexts = Unit {0}
TurnMayWant (Close which) moment contexts = 0 < count_by (is_closed moment which) contexts
TurnMayWant Quiet moment contexts = ⊥
