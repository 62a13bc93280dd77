-- The run of the machine over a history.
use Rattle.std.specs.Prelude.{◌≡◌, ◌+◌, ◌≤◌, List, [], ◌∷◌, ◌++◌, length, IfSome}
use Rattle.es_types.specs.declared.limits.TheConstants.{INDEX_SHARDS, LEAST_BATCH, MOST_BATCH, SORT_KEYS, WINDOW}
use Rattle.slice_rule.specs.Parts.{IsSlice}
use Rattle.list_machine.specs.declared.event.Entry.{Entry}
use Rattle.list_machine.specs.declared.event.Event.{Event}
use Rattle.list_machine.specs.declared.event.Event.TheVariants.{Create, Write, Seal, Publish, OpenPit, Search, Close, Quiet}
use Rattle.list_machine.specs.declared.event.Change.TheVariants.{Put, Remove}
use Rattle.list_machine.specs.declared.event.Reply.{Reply}
use Rattle.list_machine.specs.declared.event.Limits.{Limits}
use Rattle.list_machine.specs.declared.page.request.SearchRequest.{SearchRequest}
use Rattle.list_machine.specs.Objects.{IsObject}
use Rattle.list_machine.specs.State.{State, start}
use Rattle.list_machine.specs.Step.{step}

abbrev pub History : Type 0
History = List Entry

-- the state after these entries
abbrev pub run : State → History → State
run state [] = state
run state (entry ∷ entries) = run (step state entry).0 entries

-- the state after a history
abbrev pub state_of : Limits → History → State
state_of limits history = run (start limits) history

-- the reply to an entry after a history
abbrev pub reply_of : Limits → History → Entry → Reply
reply_of limits history entry = (step (state_of limits history) entry).1

-- an entry stands after the first entries of a history
pub record Occurs (history before : History) (entry : Entry) : Type 0 where
  pub after : History
  pub is : history ≡ before ++ entry ∷ after

-- A search leaves out and asks for at most 10,000 hits together, brings 2 to 1,024 shards together at a time, sorts by at most 64
-- keys, and if it is of a slice, of one that there can be.
pub record IsWithinLimits (request : SearchRequest) : Type 0 where
  pub window : request.from + request.size ≤ WINDOW
  pub batch_least : LEAST_BATCH ≤ request.batch
  pub batch_most : request.batch ≤ MOST_BATCH
  pub keys : length request.sort.keys ≤ SORT_KEYS
  pub slice : IfSome request.slice IsSlice

-- an index is made with 1 to 1,024 shards, and a search is within the limits of one
abbrev pub IsBounded : Event → Type 0
IsBounded (Create index shards mapping) = (1 ≤ shards) × (shards ≤ INDEX_SHARDS)
IsBounded (Write index id change) = Unit {0}
IsBounded (Seal index) = Unit {0}
IsBounded (Publish index shard upto) = Unit {0}
IsBounded (OpenPit index keep) = Unit {0}
IsBounded (Search target request) = IsWithinLimits request
IsBounded (Close which) = Unit {0}
IsBounded Quiet = Unit {0}

-- a put's source is a JSON object
abbrev pub PutsObject : Event → Type 0
PutsObject (Create index shards mapping) = Unit {0}
PutsObject (Write index id (Put doc)) = IsObject doc.source
PutsObject (Write index id Remove) = Unit {0}
PutsObject (Seal index) = Unit {0}
PutsObject (Publish index shard upto) = Unit {0}
PutsObject (OpenPit index keep) = Unit {0}
PutsObject (Search target request) = Unit {0}
PutsObject (Close which) = Unit {0}
PutsObject Quiet = Unit {0}
