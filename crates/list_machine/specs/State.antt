-- The state of the machine.
use Rattle.std.specs.Prelude.{◌≡◌, ◌≢◌, ℕ, ◌+◌, ◌<◌, ◌≤◌, ◌==◌, ◌&&◌, Bool, false, not, bytes_eq, nat_le, if◌then◌else◌, List, [], ◌∷◌, length, map, find, slice_get, sum_by, count_by, All, AllPairs, Option, Some, codes}
use Rattle.es_types.specs.declared.limits.TheConstants.{ALL_SHARDS, SHARD_ROWS}
use Rattle.es_types.specs.declared.mapping.Field.{Field}
use Rattle.es_types.specs.declared.row.Op.{Op}
use Rattle.es_types.specs.declared.row.Op.TheVariants.{Put, Remove}
use Rattle.es_types.specs.declared.row.Row.{Row}
use Rattle.es_types.specs.Homes.{shard_of}
use Rattle.es_types.specs.Values.{AreValuesOf}
use Rattle.list_machine.specs.declared.event.Limits.{Limits}
use Rattle.list_machine.specs.Rows.{Shard}
use Rattle.list_machine.specs.Views.{View, shards_of}
use Rattle.list_machine.specs.Objects.{AreObjects, PutsObjectOp}

pub record Index : Type 0 where
  pub name : List ℕ
  pub mapping : List Field
  pub shards : List Shard

-- a point in time: its number, the view that it keeps, the last moment at which it is live unless it is closed before, and whether
-- it is closed
pub record Context : Type 0 where
  pub number : ℕ
  pub view : View
  pub expiry : ℕ
  pub closed : Bool

-- one that is not closed
abbrev pub pit : ℕ → View → ℕ → Context
pit number view expiry = record { number = number; view = view; expiry = expiry; closed = false }

pub record State : Type 0 where
  pub limits : Limits
  pub moment : ℕ
  -- the number that the next context gets
  pub next : ℕ
  pub indexes : List Index
  pub contexts : List Context

-- the index of that name
abbrev pub index_of : List ℕ → List Index → Option Index
index_of name indexes = find (λ index. bytes_eq index.name name) indexes

-- the indexes with this one in the place of its name
abbrev pub put_index : Index → List Index → List Index
put_index new [] = []
put_index new (index ∷ indexes) = if bytes_eq index.name new.name then new ∷ indexes else index ∷ put_index new indexes

-- the context of that number
abbrev pub context_of : ℕ → List Context → Option Context
context_of number contexts = find (λ context. context.number == number) contexts

abbrev pub is_live : ℕ → Context → Bool
is_live moment context = not context.closed && nat_le moment context.expiry

abbrev pub live_contexts : State → ℕ
live_contexts state = count_by (is_live state.moment) state.contexts

-- how many shards all indexes have together, and how many they may have
abbrev pub shard_count : List Index → ℕ
shard_count indexes = sum_by (λ (index : Index). length index.shards) indexes

-- the rows of each shard as they are now
abbrev pub view_of : Index → View
view_of index = record { index = index.name; mapping = index.mapping; shards = map (λ (shard : Shard). shard.rows) index.shards }

abbrev pub empty_shard : Shard
empty_shard = record { base = 0; rows = []; pending = [] }

-- the index that is there from the start
abbrev pub docs : List ℕ
docs = codes "docs"

abbrev pub start : Limits → State
start limits = record {
  limits = limits;
  moment = 0;
  next = 1;
  indexes = record { name = docs; mapping = []; shards = empty_shard ∷ [] } ∷ [];
  contexts = [];
}

-- what holds of each shard: its ids differ, its rows stand in the order of their numbers, none above those
-- that were applied, and it is not over-full
pub record IsSoundShard (shard : Shard) : Type 0 where
  pub ids_differ : AllPairs (λ (a b : Row). a.id ≢ b.id) shard.rows
  pub rising : AllPairs (λ (a b : Row). a.seq < b.seq) shard.rows
  pub applied : All (λ (row : Row). row.seq ≤ shard.base) shard.rows
  pub few : length shard.rows + length shard.pending ≤ SHARD_ROWS

-- the document that an operation is of
abbrev pub id_of : Op → List ℕ
id_of (Put id source values) = id
id_of (Remove id) = id

-- the shard at that place, among so many, has rows and waiting operations of its own documents alone
pub record IsHome (at shards : ℕ) (shard : Shard) : Type 0 where
  pub rows : All (λ (row : Row). shard_of row.id shards ≡ at) shard.rows
  pub pending : All (λ (op : Op). shard_of (id_of op) shards ≡ at) shard.pending

-- so has each shard of an index
abbrev pub AreHomes : Index → Type 0
AreHomes index = (at : ℕ) (shard : Shard) → slice_get index.shards at ≡ Some shard → IsHome at (length index.shards) shard

-- a put has the values of that mapping
abbrev pub PutsValues : List Field → Op → Type 0
PutsValues mapping (Put id source values) = AreValuesOf mapping values
PutsValues mapping (Remove id) = Unit {0}

-- each row of these has
abbrev pub HaveValues : List Field → List Row → Type 0
HaveValues mapping rows = All (λ (row : Row). AreValuesOf mapping row.values) rows

-- each row and each waiting put of the shard has
pub record HasValues (mapping : List Field) (shard : Shard) : Type 0 where
  pub rows : HaveValues mapping shard.rows
  pub pending : All (PutsValues mapping) shard.pending

-- what holds in every state that the machine comes to
pub record IsSound (state : State) : Type 0 where
  pub shards : All (λ (index : Index). All IsSoundShard index.shards) state.indexes
  -- each row and each waiting operation stands in the shard of its document
  pub homes : All AreHomes state.indexes
  -- each row and each waiting put has one value for each field of its index's mapping: of the field's kind, or missing
  pub values : All (λ (index : Index). All (HasValues index.mapping) index.shards) state.indexes
  -- and each row of a view has one for each field of the view's mapping
  pub view_values : All (λ (context : Context). All (HaveValues context.view.mapping) context.view.shards) state.contexts
  pub names_differ : AllPairs (λ (a b : Index). a.name ≢ b.name) state.indexes
  pub few : shard_count state.indexes ≤ ALL_SHARDS
  -- every issued number is below the next, and no two contexts have one number
  pub issued : All (λ (context : Context). context.number < state.next) state.contexts
  pub numbers_rise : AllPairs (λ (a b : Context). a.number < b.number) state.contexts
  -- no more points in time are live than may be
  pub limited : live_contexts state ≤ state.limits.pits

-- each row and each waiting put is a JSON object
pub record HasObjects (state : State) : Type 0 where
  pub rows : All (λ (index : Index). All (λ (shard : Shard). AreObjects shard.rows) index.shards) state.indexes
  pub pending : All (λ (index : Index). All (λ (shard : Shard). All PutsObjectOp shard.pending) index.shards) state.indexes
  pub views : All (λ (context : Context). All AreObjects (shards_of context.view)) state.contexts
