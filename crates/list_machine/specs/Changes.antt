-- What writes and publishes make of the shards of an index, and an event of all indexes.
use Rattle.std.specs.Prelude.{◌≡◌, ℕ, ◌+◌, Bool, true, false, nat_lt, if◌then◌else◌, List, length, Option, Some, None, Result, Ok, Err, slice_get, slice_set}
use Rattle.es_types.specs.declared.fit.DocFault.{DocFault}
use Rattle.es_types.specs.declared.mapping.Field.{Field}
use Rattle.es_types.specs.declared.row.Op.{Op}
use Rattle.es_types.specs.declared.row.Op.TheVariants.{Put, Remove}
use Rattle.es_types.specs.Homes.{shard_of}
use Rattle.list_machine.specs.declared.event.Change.{Change}
use Rattle.list_machine.specs.declared.event.Reply.{Reply}
use Rattle.list_machine.specs.declared.event.Reply.TheVariants.{BadDoc, NoIndex, ShardFull, Wrote as WroteReply}
use Rattle.list_machine.specs.declared.event.Wrote.{Wrote}
use Rattle.list_machine.specs.declared.event.Wrote.TheVariants.{Created, Updated, Deleted, NotFound}
use Rattle.list_machine.specs.Rows.{Shard, has_id, last_number, publish, rows_to_come}
use Rattle.list_machine.specs.State.{State, Index, id_of}
use Rattle.list_machine.specs.Step.{append_op, is_full, op_of}

-- what an operation did, by whether its document was there
abbrev pub did : Op → Bool → Wrote
did (Put id source values) true = Updated
did (Put id source values) false = Created
did (Remove id) true = Deleted
did (Remove id) false = NotFound

-- what an operation makes of a shard, and its reply
abbrev pub write_of : Shard → Op → Shard × Reply
write_of shard op =
    if is_full shard
    then (shard, ShardFull)
    else (append_op shard op, WroteReply (did op (has_id (id_of op) (rows_to_come shard))) (last_number shard + 1))

-- what it makes of all shards, where the document's is this one
abbrev pub write_at : List Shard → List ℕ → Op → Option Shard → List Shard × Reply
write_at shards id op None = (shards, NoIndex)
write_at shards id op (Some shard) = (slice_set shards (shard_of id (length shards)) (write_of shard op).0, (write_of shard op).1)

-- and where that is its operation, or its document is refused
abbrev pub write_by : List Shard → List ℕ → Result Op DocFault → List Shard × Reply
write_by shards id (Err fault) = (shards, BadDoc fault)
write_by shards id (Ok op) = write_at shards id op (slice_get shards (shard_of id (length shards)))

-- what a write makes of the shards of an index with that mapping, and its reply
abbrev pub write_in : List Field → List Shard → List ℕ → Change → List Shard × Reply
write_in mapping shards id change = write_by shards id (op_of mapping id change)

-- what a publish makes of a shard: a number that no operation has changes nothing
abbrev pub publish_of : Shard → ℕ → Shard
publish_of shard upto = if nat_lt (last_number shard) upto then shard else publish shard upto

-- what a publish makes of the shards of an index
abbrev pub publish_at : List Shard → ℕ → ℕ → Option Shard → List Shard
publish_at shards at upto None = shards
publish_at shards at upto (Some shard) = slice_set shards at (publish_of shard upto)

abbrev pub publish_in : List Shard → ℕ → ℕ → List Shard
publish_in shards at upto = publish_at shards at upto (slice_get shards at)

-- what becomes of the indexes at any state that has them, and the reply
abbrev pub Moves : (State → State × Reply) → List Index → List Index → Reply → Type 0
Moves f old new reply = (state : State) → f (record state { indexes = old }) ≡ (record state { indexes = new }, reply)
