-- What the indexes of a core are seen as, and where they stand.
use Rattle.std.specs.Prelude.{◌≡◌, ℕ, bytes_eq, List, map, All, position, String}
use Rattle.std.specs.Arc.{arc_value}
use Rattle.std.specs.BTreeMap.{BTreeMap, get_by_text}
use Rattle.list_machine.specs.declared.event.Event.{Event}
use Rattle.list_machine.specs.declared.event.Event.TheVariants.{Create, Write, Seal, Publish, OpenPit, Search, Close, Quiet}
use Rattle.list_machine.specs.Seen.Stores.{AreNumbered, most_entries}
use Rattle.list_machine.specs.State.{Index as Seen}
use Rattle.es_core.specs.declared.index.Index.{Index}

abbrev pub index_seen : Index → Seen
index_seen index = record { name = index.name; mapping = arc_value index.mapping; shards = index.shards.items }

abbrev pub indexes_seen : List Index → List Seen
indexes_seen indexes = map index_seen indexes

-- each index stands at the place that its name has
abbrev pub Placed : {Y : Type 0} → BTreeMap (String Y) ℕ → List Index → Type 0
Placed places indexes = (name : List ℕ) → get_by_text places name ≡ position (λ (index : Index). bytes_eq index.name name) indexes

-- no operation of these indexes has the number 2^53 or one above
abbrev pub AllNumbered : List Seen → Type 0
AllNumbered indexes = All (λ (index : Seen). AreNumbered most_entries index.shards) indexes

-- an event of the indexes alone
abbrev pub IsOfIndexes : Event → Type 0
IsOfIndexes (Create name shards mapping) = Unit {0}
IsOfIndexes (Write name id change) = Unit {0}
IsOfIndexes (Seal name) = Unit {0}
IsOfIndexes (Publish name shard upto) = Unit {0}
IsOfIndexes (OpenPit index keep) = ⊥
IsOfIndexes (Search target request) = ⊥
IsOfIndexes (Close which) = ⊥
IsOfIndexes Quiet = ⊥
