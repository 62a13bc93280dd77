-- What is asked of a service, event by event: each next event follows from the replies so far.
use Rattle.std.specs.Prelude.{◌≡◌, ◌⊎◌, ℕ, ◌+◌, List, [], ◌∷◌, ◌++◌, Option, Some, None, is_some, if◌then◌else◌, Bool}
use Rattle.list_machine.specs.declared.event.Event.{Event}
use Rattle.list_machine.specs.declared.event.Event.TheVariants as event
use Rattle.list_machine.specs.declared.event.Reply.{Reply}
use Rattle.list_machine.specs.declared.event.Reply.TheVariants as reply
use Rattle.list_machine.specs.declared.event.Target.TheVariants.{Index, Pit}
use Rattle.list_machine.specs.declared.event.Limits.{Limits}
use Rattle.list_machine.specs.Run.{History}
use Rattle.list_machine.specs.Serving.{Asked, MayHaveAsked, asked}
use Rattle.reply_json.specs.declared.fault.RestFault.{RestFault}
use Rattle.reply_json.specs.declared.fault.RestFault.TheVariants as fault
use Rattle.es_rest.specs.declared.refusal.Named.{Named}
use Rattle.es_rest.specs.declared.refusal.Named.TheVariants as named

-- events that were asked, each with its reply
abbrev pub Part : Type 0
Part = List (Event × Reply)

-- the event that is asked after these, unless all were asked
abbrev pub Script : Type 0
Script = Part → Option Event

-- ---- refusals

-- what an event names: its index, or else a context, whose id an event doesn't have
abbrev pub named_by : Event → Named
named_by (event.Create index shards mapping) = named.Index index
named_by (event.Write index id change) = named.Index index
named_by (event.Seal index) = named.Index index
named_by (event.Publish index shard upto) = named.Index index
named_by (event.OpenPit index keep) = named.Index index
named_by (event.Search (Index index) request) = named.Index index
named_by (event.Search (Pit number keep) request) = named.Context []
named_by (event.Close which) = named.Context []
named_by event.Quiet = named.Context []

-- what is named isn't there
abbrev pub missing : Named → RestFault
missing (named.Index name) = fault.NoIndex name
missing (named.Context id) = fault.NoContext id

abbrev pub text_of : Named → List ℕ
text_of (named.Index name) = name
text_of (named.Context id) = id

-- why a reply refuses its event, by what its request names
abbrev pub refusal : Named → Reply → Option RestFault
refusal it reply.Spent = Some fault.Spent
refusal it reply.NoIndex = Some (missing it)
refusal it reply.Exists = Some (fault.Exists (text_of it))
refusal it (reply.BadDoc doc) = Some (fault.BadDoc doc)
refusal it reply.BadQuery = Some fault.BadQuery
refusal it reply.BadSort = Some fault.BadSort
refusal it reply.BadAfter = Some fault.BadAfter
refusal it reply.Missing = Some (missing it)
refusal it (reply.TooMany limit) = Some (fault.TooMany limit)
refusal it reply.ShardFull = Some fault.ShardFull
refusal it other = None

abbrev pub is_refused : Reply → Bool
is_refused said = is_some (refusal (named.Context []) said)

abbrev pub first_of : Option RestFault → Option RestFault → Option RestFault
first_of None other = other
first_of (Some fault) other = Some fault

-- the first refusal of these
abbrev pub refused : Part → Option RestFault
refused [] = None
refused (said ∷ part) = first_of (refusal (named_by said.0) said.1) (refused part)

-- ---- scripts

-- these events one after the other, whatever they are answered, and then what follows from their replies
abbrev pub each : List Event → (List Reply → Script) → Script
each [] later part = later [] part
each (next ∷ events) later [] = Some next
each (next ∷ events) later (said ∷ part) = each events (λ replies. later (said.1 ∷ replies)) part

-- a Publish of each shard from this one on, up to its number, and then more; nothing after a refused one
abbrev pub publishes : List ℕ → ℕ → List ℕ → Script → Script
publishes index shard [] later part = later part
publishes index shard (upto ∷ numbers) later [] = Some (event.Publish index shard upto)
publishes index shard (upto ∷ numbers) later (said ∷ part) = if is_refused said.1 then None else publishes index (shard + 1) numbers later part

-- after a Seal its shards are published
abbrev pub after_seal : List ℕ → Reply → Script → Script
after_seal index (reply.Sealed numbers) later part = publishes index 0 numbers later part
after_seal index other later part = None

-- a refresh of an index, and then more
abbrev pub refresh : List ℕ → Script → Script
refresh index later [] = Some (event.Seal index)
refresh index later (said ∷ part) = after_seal index said.1 later part

-- a refresh of each index in turn
abbrev pub refreshes : List (List ℕ) → Script
refreshes [] part = None
refreshes (index ∷ indexes) part = refresh index (refreshes indexes) part

-- ---- what became of a history

-- The history goes from old to new while a seat asks for these events, as the script says, and gets these
-- replies. All entries carry the moment.
abbrev pub Talks : Limits → ℕ → ℕ → Script → History → History → Part → Type 0
Talks limits seat moment script old new [] = new ≡ old
Talks limits seat moment script old new (said ∷ part) =
    (mid : History) × (script [] ≡ Some said.0) × Asked limits seat 4 old mid (asked seat moment said.0) said.1
    × Talks limits seat moment (λ rest. script (said ∷ rest)) mid new part

-- all of the script was asked, and this is its first refusal
pub record RanScript (limits : Limits) (seat moment : ℕ) (script : Script) (old new : History) (fault : Option RestFault) : Type 0 where
  pub part : Part
  pub talks : Talks limits seat moment script old new part
  pub all : script part ≡ None
  pub is : refused part ≡ fault

-- some first events of the script were asked, the next one perhaps
pub record CutShort (limits : Limits) (seat moment : ℕ) (script : Script) (old new : History) : Type 0 where
  pub part : Part
  pub mid : History
  pub talks : Talks limits seat moment script old mid part
  pub rest : (new ≡ mid) ⊎ ((event : Event) × (script part ≡ Some event) × MayHaveAsked seat 4 mid new (asked seat moment event))

-- a way is what a script begins with, whatever follows it: all of it was asked, and nothing was refused
pub record Went (limits : Limits) (seat moment : ℕ) (way : Script → Script) (old new : History) : Type 0 where
  pub part : Part
  pub talks : (later : Script) → Talks limits seat moment (way later) old new part
  pub goes : (later : Script) (rest : Part) → way later (part ++ rest) ≡ later rest
  pub fine : refused part ≡ None

-- a reply ended the way, and this is the first refusal
pub record Stopped (limits : Limits) (seat moment : ℕ) (way : Script → Script) (old new : History) (fault : Option RestFault) : Type 0 where
  pub part : Part
  pub talks : (later : Script) → Talks limits seat moment (way later) old new part
  pub all : (later : Script) → way later part ≡ None
  pub is : refused part ≡ fault

-- memory ran out on the way
abbrev pub Strayed : Limits → ℕ → ℕ → (Script → Script) → History → History → Type 0
Strayed limits seat moment way old new = (later : Script) → CutShort limits seat moment (way later) old new
