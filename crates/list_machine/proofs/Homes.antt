-- Each row and each waiting operation stands in the shard of its document.
use Rattle.std.proofs.Common.{◌≡◌, ℕ, ◌⊎◌, inl, inr, ⊎_elim, List, [], ◌∷◌, zero, suc, length, Some, slice_get, slice_set, replicate, All, refl, sym, ap, subst, subst₂, length-set}
use Rattle.std.proofs.lemmas.List.Elements.{All-nil, All-push, All-replicate}
use Rattle.es_types.specs.declared.mapping.Field.{Field}
use Rattle.es_types.specs.declared.row.Op.{Op}
use Rattle.es_types.specs.declared.row.Row.{Row}
use Rattle.es_types.specs.Homes.{shard_of}
use Rattle.list_machine.specs.declared.event.Event.{Event}
use Rattle.list_machine.specs.Rows.{Shard}
use Rattle.list_machine.specs.State.{AreHomes, Index, IsHome, empty_shard, id_of}
use Rattle.list_machine.proofs.ShardLemmas.{publish_All}
use Rattle.list_machine.proofs.Moves.{Changed, IsOpAt, MovesIndexes, made, moves_indexes, slice_get_All}

-- a changed shard is of its own documents
changed_home : (event : Event) (mapping : List Field) (at shards : ℕ) (old new : Shard) → Changed (IsOpAt event mapping at shards) old new → IsHome at shards old → IsHome at shards new
changed_home event mapping at shards old new (inl c) h =
    subst (IsHome at shards) (sym c.3) (record { rows = h.rows; pending = All-push (λ (op : Op). shard_of (id_of op) shards ≡ at) old.pending c.0 h.pending c.1.home })
changed_home event mapping at shards old new (inr c) h =
    let all = publish_All (λ (op : Op). shard_of (id_of op) shards ≡ at) (λ (row : Row). shard_of row.id shards ≡ at) (λ number id source values home. home) old c.0 h.rows h.pending in
    subst (IsHome at shards) (sym c.2) (record { rows = all.0; pending = all.1 })

-- what stands at a place of a list that was written to
set_cases : {X : Type 0} (xs : List X) (at k : ℕ) (new x : X) → slice_get (slice_set xs at new) k ≡ Some x → ((k ≡ at) × (new ≡ x)) ⊎ (slice_get xs k ≡ Some x)
set_cases [] at k new x e = absurd (cc)
set_cases (first ∷ xs) zero zero new x e = inl (refl, cc)
set_cases (first ∷ xs) zero (suc k) new x e = inr e
set_cases (first ∷ xs) (suc at) zero new x e = inr e
set_cases (first ∷ xs) (suc at) (suc k) new x e =
    ⊎_elim (λ (here : (k ≡ at) × (new ≡ x)). inl (ap suc here.0, here.1)) (λ (there : slice_get xs k ≡ Some x). inr there) (set_cases xs at k new x e)

-- an index keeps its homes where a shard of it changes
changed_homes : (event : Event) (index : Index) (at : ℕ) (shard changed : Shard) → slice_get index.shards at ≡ Some shard → Changed (IsOpAt event index.mapping at (length index.shards)) shard changed → AreHomes index → AreHomes (record index { shards = slice_set index.shards at changed })
changed_homes event index at shard changed has changes homes k it e =
    let many : length index.shards ≡ length (slice_set index.shards at changed) = sym (length-set index.shards at changed) in
    subst (λ n. IsHome k n it) many
    (⊎_elim
    (λ (here : (k ≡ at) × (changed ≡ it)).
    subst₂ (λ place one. IsHome place (length index.shards) one) (sym here.0) here.1 (changed_home event index.mapping at (length index.shards) shard changed changes (homes at shard has)))
    (λ (there : slice_get index.shards k ≡ Some it). homes k it there)
    (set_cases index.shards at k changed it e))

-- an empty shard is of any documents
empty_home : (at shards : ℕ) → IsHome at shards empty_shard
empty_home at shards = record { rows = All-nil (λ (row : Row). shard_of row.id shards ≡ at); pending = All-nil (λ (op : Op). shard_of (id_of op) shards ≡ at) }

-- so are those of a new index
pub made_homes : (name : List ℕ) (shards : ℕ) (mapping : List Field) → AreHomes (made name shards mapping)
made_homes name shards mapping at it e =
    let n = length (replicate shards empty_shard) in
    slice_get_All (IsHome at n) (replicate shards empty_shard) at it (All-replicate (IsHome at n) shards empty_shard (empty_home at n)) e

-- a move keeps the homes
pub moves_homes : (event : Event) (old new : List Index) → MovesIndexes event old new → All AreHomes old → All AreHomes new
moves_homes event =
    moves_indexes event AreHomes AreHomes (λ index homes. homes) (changed_homes event) (λ name shards mapping creates few. made_homes name shards mapping)
