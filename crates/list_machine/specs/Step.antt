-- One step of the machine, and its reply.
use Rattle.std.specs.Prelude.{ℕ, ◌+◌, ◌==◌, ◌&&◌, max, Bool, true, false, nat_le, nat_lt, if◌then◌else◌, List, [], ◌∷◌, ◌++◌, length, map, filter, sum_by, replicate, Option, Some, None, is_none, unwrap_or, Result, Ok, Err, slice_get, slice_set}
use Rattle.std.specs.List.{list_any}
use Rattle.es_types.specs.declared.limits.TheConstants.{ALL_SHARDS, SHARD_ROWS}
use Rattle.es_types.specs.declared.fit.DocFault.{DocFault}
use Rattle.es_types.specs.declared.mapping.Field.{Field}
use Rattle.es_types.specs.declared.row.Op.{Op}
use Rattle.es_types.specs.declared.row.Op.TheVariants.{Put as PutOp, Remove as RemoveOp}
use Rattle.es_types.specs.declared.row.Value.{Value}
use Rattle.es_types.specs.Fields.{fit}
use Rattle.es_types.specs.Homes.{shard_of}
use Rattle.es_query.specs.Fits.{fits}
use Rattle.es_sort.specs.declared.sort.Keys.{Keys}
use Rattle.es_sort.specs.declared.sort.SortSpec.{SortSpec}
use Rattle.es_sort.specs.Fits.{after_fits, sort_fits}
use Rattle.list_machine.specs.declared.event.Entry.{Entry}
use Rattle.list_machine.specs.declared.event.Event.{Event}
use Rattle.list_machine.specs.declared.event.Event.TheVariants.{Create, Write, Seal, Publish, OpenPit, Search, Close, Quiet}
use Rattle.list_machine.specs.declared.event.Change.{Change}
use Rattle.list_machine.specs.declared.event.Change.TheVariants.{Put, Remove}
use Rattle.list_machine.specs.declared.event.Target.{Target}
use Rattle.list_machine.specs.declared.event.Target.TheVariants as target
use Rattle.list_machine.specs.declared.event.Which.{Which}
use Rattle.list_machine.specs.declared.event.Which.TheVariants.{Pits}
use Rattle.list_machine.specs.declared.event.Wrote.{Wrote}
use Rattle.list_machine.specs.declared.event.Wrote.TheVariants.{Created, Updated, Deleted, NotFound}
use Rattle.list_machine.specs.declared.event.Reply.{Reply}
use Rattle.list_machine.specs.declared.event.Reply.TheVariants.{Done, Wrote as WroteReply, Sealed, Opened, Found, Closed, NoIndex, Exists, Missing, BadDoc, BadQuery, BadSort, BadAfter, TooMany, ShardFull}
use Rattle.list_machine.specs.declared.page.request.SearchRequest.{SearchRequest}
use Rattle.list_machine.specs.Rows.{Shard, has_id, last_number, publish, rows_to_come}
use Rattle.list_machine.specs.Views.{View, answer, mapping_at, shards_of}
use Rattle.list_machine.specs.State.{State, Index, Context, empty_shard, index_of, put_index, context_of, is_live, live_contexts, pit, shard_count, view_of}

abbrev pub is_full : Shard → Bool
is_full shard = nat_le SHARD_ROWS (length shard.rows + length shard.pending)

-- the operation that a put is, or the fault of its document
abbrev pub put_op : List ℕ → List ℕ → Result (List Value) DocFault → Result Op DocFault
put_op id source (Ok values) = Ok (PutOp id source values)
put_op id source (Err fault) = Err fault

-- the operation that a change of a document is, unless the document has a value that is not one of its field
abbrev pub op_of : List Field → List ℕ → Change → Result Op DocFault
op_of mapping id (Put doc) = put_op id doc.source (fit mapping doc.members)
op_of mapping id Remove = Ok (RemoveOp id)

-- what a change did, by whether the document was there
abbrev pub wrote : Change → Bool → Wrote
wrote (Put doc) true = Updated
wrote (Put doc) false = Created
wrote Remove true = Deleted
wrote Remove false = NotFound

-- the state with this shard at that place of the index
abbrev pub put_shard : State → Index → ℕ → Shard → State
put_shard state index at shard = record state { indexes = put_index (record index { shards = slice_set index.shards at shard }) state.indexes }

abbrev pub append_op : Shard → Op → Shard
append_op shard op = record shard { pending = shard.pending ++ op ∷ [] }

-- an index of that name is made, with empty shards
abbrev pub create : State → List ℕ → ℕ → List Field → Option Index → State × Reply
create state name shards mapping (Some index) = (state, Exists)
create state name shards mapping None =
    if nat_lt ALL_SHARDS (shard_count state.indexes + shards)
    then (state, TooMany ALL_SHARDS)
    else (
      record state { indexes = state.indexes ++ record { name = name; mapping = mapping; shards = replicate shards empty_shard } ∷ [] },
      Done,
    )

abbrev pub write_shard : State → Index → List ℕ → Change → Op → Option Shard → State × Reply
write_shard state index id change op None = (state, NoIndex)
write_shard state index id change op (Some shard) =
    if is_full shard
    then (state, ShardFull)
    else (
      put_shard state index (shard_of id (length index.shards)) (append_op shard op),
      WroteReply (wrote change (has_id id (rows_to_come shard))) (last_number shard + 1),
    )

abbrev pub write_op : State → Index → List ℕ → Change → Result Op DocFault → State × Reply
write_op state index id change (Err fault) = (state, BadDoc fault)
write_op state index id change (Ok op) = write_shard state index id change op (slice_get index.shards (shard_of id (length index.shards)))

abbrev pub write : State → List ℕ → Change → Option Index → State × Reply
write state id change None = (state, NoIndex)
write state id change (Some index) = write_op state index id change (op_of index.mapping id change)

abbrev pub seal : State → Option Index → State × Reply
seal state None = (state, NoIndex)
seal state (Some index) = (state, Sealed (map last_number index.shards))

abbrev pub publish_shard : State → Index → ℕ → ℕ → Option Shard → State × Reply
publish_shard state index at upto None = (state, Done)
publish_shard state index at upto (Some shard) =
    if nat_lt (last_number shard) upto then (state, Done) else (put_shard state index at (publish shard upto), Done)

abbrev pub publish_index : State → ℕ → ℕ → Option Index → State × Reply
publish_index state at upto None = (state, Done)
publish_index state at upto (Some index) = publish_shard state index at upto (slice_get index.shards at)

abbrev pub open_pit : State → ℕ → Option Index → State × Reply
open_pit state keep None = (state, NoIndex)
open_pit state keep (Some index) =
    if live_contexts state == state.limits.pits
    then (state, TooMany state.limits.pits)
    else (
      record state {
        next = state.next + 1;
        contexts = state.contexts ++ pit state.next (view_of index) (state.moment + keep) ∷ [];
      },
      Opened state.next,
    )

-- whether the values to go on after, where a request gives some, are those of its sort
abbrev pub after_fits_sort : View → SortSpec → Option Keys → Bool
after_fits_sort view sort None = true
after_fits_sort view sort (Some after) = after_fits (mapping_at view 0) sort after

-- Why a request doesn't fit a view: first by a query that has a value of another kind than its field, then by a sort by a field
-- that isn't mapped, then by values to go on after that are not those of the sort. None where it fits.
abbrev pub unfit : View → SearchRequest → Option Reply
unfit view request =
    if fits (mapping_at view 0) request.query
    then (
    if sort_fits (mapping_at view 0) request.sort
    then (if after_fits_sort view request.sort request.after then None else Some BadAfter)
    else Some BadSort
    )
    else Some BadQuery

-- what a search of a view is answered
abbrev pub search_reply : View → SearchRequest → Reply
search_reply view request = unwrap_or (unfit view request) (Found (answer view request request.from))

abbrev pub search_index : State → SearchRequest → Option Index → State × Reply
search_index state request None = (state, NoIndex)
search_index state request (Some index) = (state, search_reply (view_of index) request)

-- whether a request fits the view
abbrev pub is_fit : View → SearchRequest → Bool
is_fit view request = is_none (unfit view request)

-- the last live moment of a context that is kept so long from a moment on: it is never shortened
abbrev pub later_expiry : ℕ → ℕ → ℕ → ℕ
later_expiry moment keep expiry = max expiry (moment + keep)

abbrev pub keep_one : ℕ → ℕ → ℕ → Context → Context
keep_one moment number keep context =
    if context.number == number then record context { expiry = later_expiry moment keep context.expiry } else context

-- the context of that number is kept so long from now on, where that is asked
abbrev pub keep_longer : State → ℕ → Option ℕ → State
keep_longer state number None = state
keep_longer state number (Some keep) = record state { contexts = map (keep_one state.moment number keep) state.contexts }

abbrev pub search_pit : State → ℕ → Option ℕ → SearchRequest → Option Context → State × Reply
search_pit state number keep request None = (state, Missing)
search_pit state number keep request (Some context) =
    if is_live state.moment context
    then (if is_fit context.view request then keep_longer state number keep else state, search_reply context.view request)
    else (state, Missing)

abbrev pub search : State → SearchRequest → Target → State × Reply
search state request (target.Index name) = search_index state request (index_of name state.indexes)
search state request (target.Pit number keep) = search_pit state number keep request (context_of number state.contexts)

-- ---- closing

abbrev pub is_named : Which → Context → Bool
is_named (Pits numbers) context = list_any (λ number. number == context.number) numbers

-- whether a context is one of those that are closed: it is named, and it is live
abbrev pub is_closing : ℕ → Which → Context → Bool
is_closing moment which context = is_live moment context && is_named which context

abbrev pub close_one : ℕ → Which → Context → Context
close_one moment which context = if is_closing moment which context then record context { closed = true } else context

-- how many shards the views of those have together
abbrev pub freed : ℕ → Which → List Context → ℕ
freed moment which contexts = sum_by (λ (context : Context). length (shards_of context.view)) (filter (is_closing moment which) contexts)

abbrev pub close : State → Which → State × Reply
close state which = (
  record state { contexts = map (close_one state.moment which) state.contexts },
  Closed (freed state.moment which state.contexts),
)

-- what an event makes of the state, and its reply
abbrev pub happen : State → Event → State × Reply
happen state (Create index shards mapping) = create state index shards mapping (index_of index state.indexes)
happen state (Write index id change) = write state id change (index_of index state.indexes)
happen state (Seal index) = seal state (index_of index state.indexes)
happen state (Publish index shard upto) = publish_index state shard upto (index_of index state.indexes)
happen state (OpenPit index keep) = open_pit state keep (index_of index state.indexes)
happen state (Search looked request) = search state request looked
happen state (Close which) = close state which
happen state Quiet = (state, Done)

-- the state once a moment has come: moments never fall
abbrev pub at_moment : State → ℕ → State
at_moment state moment = record state { moment = max state.moment moment }

abbrev pub step : State → Entry → State × Reply
step state entry = happen (at_moment state entry.moment) entry.event
