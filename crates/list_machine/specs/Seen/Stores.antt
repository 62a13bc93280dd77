-- What the lists of the plain machine are seen as: rows, indexes, contexts and a state.
use Rattle.std.specs.Prelude.{◌≡◌, ℕ, ◌+◌, ◌-◌, ◌≤◌, ◌==◌, max, List, length, map, All, if◌then◌else◌, Option, Some, None}
use Rattle.es_types.specs.declared.limits.TheConstants.{ALL_SHARDS, INDEX_SHARDS, MOST_ENTRIES, SHARD_ROWS}
use Rattle.es_types.specs.declared.bounds.Bounds.{Bounds}
use Rattle.es_types.specs.declared.mapping.Field.{Field}
use Rattle.es_types.specs.declared.row.Row.{Row}
use Rattle.es_query.specs.Limits.{bounds_of}
use Rattle.list_machine.specs.declared.event.Reply.{Reply}
use Rattle.list_machine.specs.declared.event.Reply.TheVariants.{Missing}
use Rattle.list_machine.specs.declared.page.request.SearchRequest.{SearchRequest}
use Rattle.list_machine.specs.declared.store.ShardStore.{ShardStore}
use Rattle.list_machine.specs.declared.store.IndexStore.{IndexStore}
use Rattle.list_machine.specs.declared.context.ContextStore.{ContextStore}
use Rattle.list_machine.specs.declared.store.Store.{Store}
use Rattle.list_machine.specs.declared.page.view.ShardRef.{ShardRef}
use Rattle.list_machine.specs.declared.page.view.ViewRef.{ViewRef}
use Rattle.list_machine.specs.Rows.{Shard, last_number}
use Rattle.list_machine.specs.Views.{View, shards_of}
use Rattle.list_machine.specs.State.{State, Index, Context, IsSound, is_live}
use Rattle.list_machine.specs.Step.{search_reply}

abbrev pub shard_seen : ShardStore → Shard
shard_seen store = record { base = store.base; rows = store.rows.items; pending = store.pending.items }

abbrev pub shards_seen : List ShardStore → List Shard
shards_seen stores = map shard_seen stores

abbrev pub index_seen : IndexStore → Index
index_seen store = record { name = store.name; mapping = store.mapping; shards = shards_seen store.shards.items }

abbrev pub view_seen : ContextStore → View
view_seen store = record { index = store.index; mapping = store.mapping; shards = map (λ rows. rows.items) store.shards.items }

abbrev pub context_seen : ContextStore → Context
context_seen store = record { number = store.number; view = view_seen store; expiry = store.expiry; closed = store.closed }

abbrev pub indexes_seen : List IndexStore → List Index
indexes_seen stores = map index_seen stores

abbrev pub contexts_seen : List ContextStore → List Context
contexts_seen stores = map context_seen stores

abbrev pub state_seen : Store → State
state_seen store = record {
  limits = store.limits;
  moment = store.moment;
  next = store.next;
  indexes = indexes_seen store.indexes.items;
  contexts = contexts_seen store.contexts.items;
}

-- the view that a search looks at
abbrev pub view_at : ViewRef → View
view_at view = record { index = view.index.now; mapping = view.mapping.now; shards = map (λ (shard : ShardRef). shard.rows.now) view.shards.now }

-- the view of an index of that name and mapping, whose shards have these rows
abbrev pub view_over : List ℕ → List Field → List (List Row) → View
view_over index mapping rows = record { index = index; mapping = mapping; shards = rows }

-- the bounds of each of some lists of rows
abbrev pub bounds_of_each : List Field → List (List Row) → List Bounds
bounds_of_each mapping lists = map (λ rows. bounds_of mapping rows) lists

-- its bounds are those of its rows
abbrev pub AreBounded : ViewRef → Type 0
AreBounded view = map (λ (shard : ShardRef). shard.bounds.now) view.shards.now ≡ bounds_of_each view.mapping.now (map (λ (shard : ShardRef). shard.rows.now) view.shards.now)

-- the most entries that come before a step
abbrev pub most_entries : ℕ
most_entries = MOST_ENTRIES - 1

-- no operation of these has a number above n
abbrev pub AreNumbered : ℕ → List Shard → Type 0
AreNumbered n shards = All (λ (shard : Shard). last_number shard ≤ n) shards

-- an index has a shard, and not more than it may have, and no operation of them has a number above n
pub record IsCountedIndex (n : ℕ) (index : Index) : Type 0 where
  pub some : 1 ≤ length index.shards
  pub few : length index.shards ≤ INDEX_SHARDS
  pub numbers : AreNumbered n index.shards

-- a view has no more shards than an index may have, and no shard of it more rows
pub record IsSmall (view : View) : Type 0 where
  pub few : length (shards_of view) ≤ INDEX_SHARDS
  pub rows : All (λ (rows : List Row). length rows ≤ SHARD_ROWS) (shards_of view)

-- a search can count its shards, and number the rows of each
pub record IsCountable (view : View) : Type 0 where
  pub few : length (shards_of view) ≤ ALL_SHARDS
  pub rows : All (λ (rows : List Row). length rows ≤ SHARD_ROWS) (shards_of view)

-- what holds after n entries
pub record IsCounted (n : ℕ) (state : State) : Type 0 where
  pub indexes : All (IsCountedIndex n) state.indexes
  pub next : state.next ≤ n + 1
  pub many : length state.contexts ≤ n
  pub views : All (λ (context : Context). IsSmall context.view) state.contexts
  pub sound : IsSound state

-- what a search of a context, or of none, is answered
abbrev pub reply_at : ℕ → SearchRequest → Option Context → Reply
reply_at moment request None = Missing
reply_at moment request (Some context) = if is_live moment context then search_reply context.view request else Missing

-- the context of that number is live till that moment at least
abbrev pub raised : ℕ → ℕ → Context → Context
raised number till context = if context.number == number then record context { expiry = max context.expiry till } else context

-- the contexts once the one of that number is kept longer, where that is asked
abbrev pub kept_longer : ℕ → ℕ → Option ℕ → List Context → List Context
kept_longer moment number None contexts = contexts
kept_longer moment number (Some keep) contexts = map (raised number (moment + keep)) contexts
