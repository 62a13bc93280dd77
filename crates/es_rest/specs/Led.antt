-- How far a request has been asked.
use Rattle.std.specs.Prelude.{◌≡◌, ◌⊎◌, ℕ, List, [], ◌∷◌, ◌++◌, if◌then◌else◌, false, Option, Some, None, slice_get, Ok, Err, true}
use Rattle.list_machine.specs.declared.event.Event.{Event}
use Rattle.list_machine.specs.declared.event.Event.TheVariants.{Seal}
use Rattle.list_machine.specs.declared.event.Reply.{Reply}
use Rattle.list_machine.specs.declared.event.Reply.TheVariants.{Sealed}
use Rattle.list_machine.specs.declared.event.Limits.{Limits}
use Rattle.list_machine.specs.Run.{History}
use Rattle.list_machine.specs.Serving.{Asked, HasSealed, IsAskable, MayHaveAsked, asked}
use Rattle.doc_json.specs.declared.bulk.BulkItem.{BulkItem}
use Rattle.es_rest.specs.declared.refusal.Named.{Named}
use Rattle.es_rest.specs.declared.refusal.Named.TheVariants as named
use Rattle.reply_json.specs.declared.fault.RestFault.{RestFault}
use Rattle.reply_json.specs.declared.response.BulkOutcome.TheVariants as outcome
use Rattle.reply_json.specs.declared.response.Response.{Response}
use Rattle.reply_json.specs.declared.response.RouteName.{RouteName}
use Rattle.es_route.specs.declared.ask.Ask.{Ask}
use Rattle.es_route.specs.declared.ask.Ask.TheVariants.{Bulk, Refresh}
use Rattle.es_rest.specs.declared.bulk.Written.{Written}
use Rattle.es_rest.specs.declared.refresh.Refreshed.{Refreshed}
use Rattle.es_rest.specs.declared.refresh.Refreshed.TheVariants.{All, Ended}
use Rattle.es_rest.specs.declared.work.Work.{Work}
use Rattle.es_rest.specs.declared.work.Work.TheVariants as work
use Rattle.es_route.specs.Items.{write_of}
use Rattle.es_rest.specs.Items.{changed_by, line_of, lines_of, outcome_of, with_index, writes_of}
use Rattle.es_rest.specs.Scripts.{CutShort, Part, Script, Stopped, Talks, Went, each, is_refused, publishes, refresh, refusal}
use Rattle.es_rest.specs.Talk.{answer_of, after_each, events_of, refreshed_of, settled}

-- a Seal of the index answered these numbers for its shards
abbrev pub AreSealed : Limits → History → List ℕ → List ℕ → Type 0
AreSealed limits history index numbers =
    (shard upto : ℕ) → slice_get numbers shard ≡ Some upto → HasSealed limits history index shard upto

-- these shards were published, all or until one was refused
abbrev pub Published : Limits → ℕ → ℕ → List ℕ → List ℕ → History → History → Option Reply → Type 0
Published limits seat moment index numbers old new None = Went limits seat moment (publishes index 0 numbers) old new
Published limits seat moment index numbers old new (Some said) =
    Stopped limits seat moment (publishes index 0 numbers) old new (refusal (named.Index index) said) × (is_refused said ≡ true)

-- a reply ended a refresh: it was refused, or it is the first one
pub record EndedBy (limits : Limits) (seat moment : ℕ) (index : List ℕ) (old new : History) (said : Reply) : Type 0 where
  pub stopped : Stopped limits seat moment (refresh index) old new (refusal (named.Index index) said)
  pub first : is_refused said ≡ false → stopped.part ≡ (Seal index, said) ∷ []

-- an index was refreshed: its Seal answered these numbers
pub record WasRefreshed (limits : Limits) (seat moment : ℕ) (index : List ℕ) (old new : History) (numbers : List ℕ) : Type 0 where
  pub went : Went limits seat moment (refresh index) old new
  pub more : Part
  pub first : went.part ≡ (Seal index, Sealed numbers) ∷ more

abbrev pub RefreshWent : Limits → ℕ → ℕ → List ℕ → History → History → Refreshed → Type 0
RefreshWent limits seat moment index old new (All numbers) = WasRefreshed limits seat moment index old new numbers
RefreshWent limits seat moment index old new (Ended said) = EndedBy limits seat moment index old new said

-- the first events of a request were asked, and got these replies
pub record Led (limits : Limits) (seat moment : ℕ) (events : List Event) (old new : History) (replies : List Reply) : Type 0 where
  pub part : Part
  pub talks : (later : List Reply → Script) → Talks limits seat moment (each events later) old new part
  pub goes : (later : List Reply → Script) (rest : Part) → each events later (part ++ rest) ≡ later replies rest
  pub after : (later : List Reply → Part → Option Response) (rest : Part) → after_each events later (part ++ rest) ≡ later replies rest

-- what a request of one event is answered by: what it names, its route, and the indexes that it refreshes where it is
-- taken
pub record IsLabel (ask : Ask) (event : Event) (it : Named) (route : RouteName) (indexes : List (List ℕ)) : Type 0 where
  pub events : events_of ask ≡ event ∷ []
  pub answer : (said : Reply) (part : Part) → answer_of ask (said ∷ []) part ≡ Some (settled (refusal it said) said route)
  pub refreshes : (said : Reply) → refreshed_of ask (said ∷ []) ≡ (if is_refused said then [] else indexes)

-- what a request comes to: one event with its label, a bulk, or a refresh
abbrev pub IsWork : Ask → Work → Type 0
IsWork ask (work.One event label) = IsLabel ask event label.names label.route label.refreshed.items × ((limits : Limits) (history : History) → IsAskable limits history event)
IsWork ask (work.Bulk index body refresh items) = ask ≡ Bulk index body refresh items
IsWork ask (work.Refresh index) = ask ≡ Refresh index

-- ---- a bulk

-- an item was refused by itself
pub record ItemRefused (old new : History) (item : BulkItem) (before after : Written) : Type 0 where
  pub fault : RestFault
  pub is : write_of item ≡ Err fault
  pub same : new ≡ old
  pub lines : after.lines.items ≡ before.lines.items ++ line_of item (outcome.Fault fault) ∷ []
  pub changed : after.changed ≡ before.changed

-- or its Write was asked
pub record ItemAsked (limits : Limits) (seat moment : ℕ) (old new : History) (item : BulkItem) (before after : Written) : Type 0 where
  pub event : Event
  pub is : write_of item ≡ Ok event
  pub said : Reply
  pub was : Asked limits seat 4 old new (asked seat moment event) said
  pub lines : after.lines.items ≡ before.lines.items ++ line_of item (outcome_of item.index said) ∷ []
  pub changed : after.changed ≡ with_index before.changed item.index said

abbrev pub ItemDone : Limits → ℕ → ℕ → History → History → BulkItem → Written → Written → Type 0
ItemDone limits seat moment old new item before after =
    ItemRefused old new item before after ⊎ ItemAsked limits seat moment old new item before after

-- memory ran out at it
abbrev pub ItemCut : Limits → ℕ → ℕ → History → History → BulkItem → Type 0
ItemCut limits seat moment old new item =
    (new ≡ old) ⊎ ((event : Event) × (write_of item ≡ Ok event)
    × (MayHaveAsked seat 4 old new (asked seat moment event) ⊎ ((said : Reply) × Asked limits seat 4 old new (asked seat moment event) said)))

-- all items were gone through
pub record ItemsDone (limits : Limits) (seat moment : ℕ) (items : List BulkItem) (old new : History) (after : Written) : Type 0 where
  pub replies : List Reply
  pub led : Led limits seat moment (writes_of items) old new replies
  pub lines : after.lines.items ≡ lines_of items replies
  pub changed : after.changed ≡ changed_by [] items replies

-- or memory ran out on the way
abbrev pub BulkCut : Limits → ℕ → ℕ → List BulkItem → History → History → Type 0
BulkCut limits seat moment items old new = (later : List Reply → Script) → CutShort limits seat moment (each (writes_of items) later) old new
