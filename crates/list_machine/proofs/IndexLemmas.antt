-- The index of a name in a list of stores that are seen as indexes, and what events make of that list.
use Rattle.std.proofs.Common.{◌≡◌, ℕ, ◌+◌, ◌<◌, ◌≤◌, Bool, true, false, not, cond, ltb, List, [], ◌∷◌, zero, suc, length, map, set, get_or, slice_get, Option, Some, None, Result, Ok, Err, sym, refl, ap, subst, ◌∙◌, arith}
use Rattle.std.specs.List.{All, position, position_or_len}
use Rattle.std.specs.Str.{bytes_eq}
use Rattle.std.proofs.lemmas.Slice.Eq.{bytes_eq-Decides}
use Rattle.std.proofs.lemmas.List.Quantifiers.{position-Some}
use Rattle.std.proofs.lemmas.List.{set-get_or}
use Rattle.std.proofs.lemmas.Option.{get_or_from_slice_get, none-some, slice_get-map, slice_get_within}
use Rattle.std.specs.Option.{option_map}
use Rattle.std.proofs.Math.Seq.{map-set_same}
use Rattle.es_types.specs.declared.fit.DocFault.{DocFault}
use Rattle.es_types.specs.declared.mapping.Field.{Field}
use Rattle.es_types.specs.declared.row.Op.{Op}
use Rattle.es_types.specs.declared.row.Op.TheVariants.{Put as PutOp, Remove as RemoveOp}
use Rattle.es_types.specs.declared.row.Value.{Value}
use Rattle.es_types.specs.Fields.{fit}
use Rattle.es_types.specs.Homes.{shard_of}
use Rattle.list_machine.specs.declared.event.Change.{Change}
use Rattle.list_machine.specs.declared.event.Change.TheVariants.{Put, Remove}
use Rattle.list_machine.specs.declared.event.Event.TheVariants.{Write, Publish, Seal}
use Rattle.list_machine.specs.declared.event.Reply.{Reply}
use Rattle.list_machine.specs.declared.event.Reply.TheVariants.{BadDoc, Done, NoIndex, Wrote as WroteReply, Sealed, ShardFull}
use Rattle.list_machine.specs.declared.event.Wrote.{Wrote}
use Rattle.list_machine.specs.Changes.{Moves, did, publish_at, publish_in, write_at, write_by, write_in}
use Rattle.list_machine.specs.Rows.{Shard, has_id, last_number, publish, rows_to_come}
use Rattle.list_machine.specs.State.{Index, State, id_of, index_of, put_index}
use Rattle.list_machine.specs.Step.{append_op, happen, is_full, op_of, publish_index, publish_shard, put_op, put_shard, seal, write, write_op, write_shard, wrote}

-- ---- finding

-- a look-up that found a store, which stands at that place: it is the first that has the name, and one of that name takes its place
pub record IsFound {X : Type 0} (seen : X → Index) (name : List ℕ) (stores : List X) (at : ℕ) (store : X) : Type 0 where
  pub stands : slice_get stores at ≡ Some store
  pub named : (seen store).name ≡ name
  pub there : index_of name (map seen stores) ≡ Some (seen store)
  pub puts : (new : X) → (seen new).name ≡ name → put_index (seen new) (map seen stores) ≡ map seen (set stores at new)

-- a store of the name, with none of the name before it, is found
found_from : {X : Type 0} (seen : X → Index) (name : List ℕ) (stores : List X) (at : ℕ) (d store : X) → at < length stores → store ≡ get_or stores at d
    → bytes_eq (seen (get_or stores at d)).name name ≡ true → ((k : ℕ) → k < at → bytes_eq (seen (get_or stores k d)).name name ≡ false)
    → IsFound seen name stores at store
found_from seen name [] at d store less is here before = absurd (omega arith)
found_from {X} seen name (first ∷ stores) zero d store less is here before =
    record {
      stands = ap (λ (it : X). Some it) (sym is);
      named = ap (λ (it : X). (seen it).name) is ∙ (bytes_eq-Decides (seen first).name name).0 here;
      there = ap (λ b. cond b (Some (seen first)) (index_of name (map seen stores))) here ∙ ap (λ (it : X). Some (seen it)) (sym is);
      puts = λ new named.
          ap (λ b. cond b (seen new ∷ map seen stores) (seen first ∷ put_index (seen new) (map seen stores))) (ap (bytes_eq (seen first).name) named ∙ here);
    }
found_from seen name (first ∷ stores) (suc at) d store less is here before =
    let other : bytes_eq (seen first).name name ≡ false = before 0 (omega arith) in
    let rest : IsFound seen name stores at store = found_from seen name stores at d store (omega arith) is here (λ k below. before (suc k) (omega arith)) in
    record {
      stands = rest.stands;
      named = rest.named;
      there = ap (λ b. cond b (Some (seen first)) (index_of name (map seen stores))) other ∙ rest.there;
      puts = λ new named.
          ap (λ b. cond b (seen new ∷ map seen stores) (seen first ∷ put_index (seen new) (map seen stores))) (ap (bytes_eq (seen first).name) named ∙ other)
          ∙ ap (λ them. seen first ∷ them) (rest.puts new named);
    }

-- what a look-up in a slice of the stores found
pub found_at : {X : Type 0} (seen : X → Index) (name : List ℕ) (stores slice : List X) (at : ℕ) (store : X) (place : Option ℕ) → slice ≡ stores
    → place ≡ position (λ (it : X). bytes_eq (seen it).name name) slice → place ≡ Some at → store ≡ get_or stores at store
    → IsFound seen name stores at store
found_at {X} seen name stores slice at store place same is some here =
    let named : X → Bool = λ it. bytes_eq (seen it).name name in
    let found = position-Some named stores at store (ap (position named) (sym same) ∙ sym is ∙ some) in
    found_from seen name stores at store store found.0 here found.1 found.2

-- there is an index of the name where a look-up found something
pub some_index : {X : Type 0} (seen : X → Index) (name : List ℕ) (stores slice : List X) (at : ℕ) (place : Option ℕ) → slice ≡ stores
    → place ≡ position (λ (it : X). bytes_eq (seen it).name name) slice → place ≡ Some at
    → (index : Index) × (index_of name (map seen stores) ≡ Some index)
some_index {X} seen name [] slice at place same is some =
    absurd (none-some at (sym (is ∙ ap (position (λ (it : X). bytes_eq (seen it).name name)) same) ∙ some))
some_index {X} seen name (store ∷ stores) slice at place same is some =
    let named : X → Bool = λ it. bytes_eq (seen it).name name in
    let found = position-Some named (store ∷ stores) at store (ap (position named) (sym same) ∙ sym is ∙ some) in
    let it : X = get_or (store ∷ stores) at store in
    let there : IsFound seen name (store ∷ stores) at it = found_from seen name (store ∷ stores) at store it found.0 refl found.1 found.2 in
    (seen it, there.there)

-- where no store has the name, a look-up finds nothing
absent : {X : Type 0} (seen : X → Index) (name : List ℕ) (stores : List X) → length stores ≤ position_or_len (λ (it : X). bytes_eq (seen it).name name) stores
    → index_of name (map seen stores) ≡ None
absent seen name [] all = refl
absent {X} seen name (store ∷ stores) all =
    elim (bytes_eq (seen store).name name) as (λ b. suc (length stores) ≤ cond (not b) (1 + position_or_len (λ (it : X). bytes_eq (seen it).name name) stores) 0
    → cond b (Some (seen store)) (index_of name (map seen stores)) ≡ None)
    [ true ↦ λ le. absurd (omega arith) | false ↦ λ le. absent seen name stores (omega arith) ] all

-- the same, by what a look-up in a slice of the stores said
pub index_of-none : {X : Type 0} (seen : X → Index) (name : List ℕ) (stores slice : List X) (place : Option ℕ) → slice ≡ stores
    → place ≡ position (λ (it : X). bytes_eq (seen it).name name) slice → place ≡ None → index_of name (map seen stores) ≡ None
index_of-none {X} seen name stores slice place same is none =
    let named : X → Bool = λ it. bytes_eq (seen it).name name in
    let past : position named stores ≡ None = ap (position named) (sym same) ∙ sym is ∙ none in
    absent seen name stores (grind arith)

-- ---- what events make of the list

-- nothing is seen where the found store is seen as it was
pub seen_same : {X : Type 0} {seen : X → Index} {name : List ℕ} {stores : List X} {at : ℕ} {store : X} → IsFound seen name stores at store
    → (new : X) → seen new ≡ seen store → map seen (set stores at new) ≡ map seen stores
seen_same {seen = seen} {stores = stores} {at = at} {store = store} found new same =
    map-set_same seen stores at new store (same ∙ ap seen (sym (get_or_from_slice_get stores at store store found.stands)))

-- the found index has what all have
pub holds_at : {X : Type 0} {seen : X → Index} {name : List ℕ} {stores : List X} {at : ℕ} {store : X} → IsFound seen name stores at store
    → (P : Index → Type 0) → All P (map seen stores) → P (seen store)
holds_at {X} {seen} {name} {stores} {at} {store} found P all =
    let there : slice_get (map seen stores) at ≡ Some (seen store) = slice_get-map seen stores at ∙ ap (option_map seen) found.stands in
    subst P (get_or_from_slice_get (map seen stores) at (seen store) (seen store) there) (all at (seen store) (slice_get_within (map seen stores) at (seen store) there))

-- the state with these shards in an index
abbrev put_shards : State → Index → List Shard → State
put_shards state index shards = record state { indexes = put_index (record index { shards = shards }) state.indexes }

-- what becomes of the indexes where an event puts the shards of the found one
turned : {X : Type 0} {seen : X → Index} {name : List ℕ} {stores : List X} {at : ℕ} {store : X} → IsFound seen name stores at store
    → (new : X) → seen new ≡ record (seen store) { shards = (seen new).shards } → (f : State → Option Index → State × Reply) (reply : Reply) (state : State)
    → f (record state { indexes = map seen stores }) (Some (seen store)) ≡ (put_shards (record state { indexes = map seen stores }) (seen store) (seen new).shards, reply)
    → f (record state { indexes = map seen stores }) (index_of name (map seen stores)) ≡ (record state { indexes = map seen (set stores at new) }, reply)
turned {seen = seen} {stores = stores} {store = store} found new like f reply state acts =
    let with_indexes : List Index → State × Reply = λ them. (record state { indexes = them }, reply) in
    ap (f (record state { indexes = map seen stores })) found.there
    ∙ acts
    ∙ ap (λ (it : Index). with_indexes (put_index it (map seen stores))) (sym like)
    ∙ ap with_indexes (found.puts new (ap (λ (it : Index). it.name) like ∙ found.named))

-- nothing changes where the found index is put in its own place
put_index-same : {X : Type 0} {seen : X → Index} {name : List ℕ} {stores : List X} {at : ℕ} {store : X} → IsFound seen name stores at store
    → put_index (seen store) (map seen stores) ≡ map seen stores
put_index-same {store = store} found = found.puts store found.named ∙ seen_same found store refl

-- a list that gets at a place what stands there is the same
set_same : {X : Type 0} (xs : List X) (k : ℕ) (x : X) → slice_get xs k ≡ Some x → set xs k x ≡ xs
set_same xs k x e = ap (set xs k) (sym (get_or_from_slice_get xs k x x e)) ∙ set-get_or xs k x

-- what the operation of a change did, and whose it is
op_of_did : (mapping : List Field) (id : List ℕ) (change : Change) (op : Op) (stood : Bool) → op_of mapping id change ≡ Ok op → (did op stood ≡ wrote change stood) × (id_of op ≡ id)
op_of_did mapping id (Put doc) op stood is = put_did (fit mapping doc.members) is
  where
    put_did : (r : Result (List Value) DocFault) → put_op id doc.source r ≡ Ok op → (did op stood ≡ wrote (Put doc) stood) × (id_of op ≡ id)
    put_did (Err fault) is = absurd (cc)
    put_did (Ok values) is =
        let made : PutOp id doc.source values ≡ op = cc in
        subst (λ (it : Op). (did it stood ≡ wrote (Put doc) stood) × (id_of it ≡ id)) made
        (elim stood as (λ b. did (PutOp id doc.source values) b ≡ wrote (Put doc) b) [ true ↦ refl | false ↦ refl ], refl)
op_of_did mapping id Remove op stood is =
    let made : RemoveOp id ≡ op = cc in
    subst (λ (it : Op). (did it stood ≡ wrote Remove stood) × (id_of it ≡ id)) made
    (elim stood as (λ b. did (RemoveOp id) b ≡ wrote Remove b) [ true ↦ refl | false ↦ refl ], refl)

-- a write to a shard, or to none, in the words of `write_at`
write_at_is : (seen : State) (index : Index) (id : List ℕ) (change : Change) (op : Op) → op_of index.mapping id change ≡ Ok op → put_index index seen.indexes ≡ seen.indexes
    → (o : Option Shard) → slice_get index.shards (shard_of id (length index.shards)) ≡ o
    → ◌≡◌ {A = State × Reply} (write_shard seen index id change op o) (put_shards seen index (write_at index.shards id op o).0, (write_at index.shards id op o).1)
write_at_is seen index id change op made same None e =
    let with_reply : List Index → State × Reply = λ them. (record seen { indexes = them }, NoIndex) in ap with_reply (sym same)
write_at_is seen index id change op made same (Some shard) e =
    let at = shard_of id (length index.shards) in
    let done : Wrote → State × Reply = λ it. (put_shard seen index at (append_op shard op), WroteReply it (last_number shard + 1)) in
    let mine : Reply = WroteReply (did op (has_id (id_of op) (rows_to_come shard))) (last_number shard + 1) in
    let is = op_of_did index.mapping id change op (has_id id (rows_to_come shard)) made in
    let says : wrote change (has_id id (rows_to_come shard)) ≡ did op (has_id (id_of op) (rows_to_come shard)) =
    sym is.0 ∙ ap (λ (it : List ℕ). did op (has_id it (rows_to_come shard))) (sym is.1) in
    let with_reply : List Index → State × Reply = λ them. (record seen { indexes = them }, ShardFull) in
    let with_shards : List Shard → State × Reply = λ them. (put_shards seen index them, ShardFull) in
    elim (is_full shard) as (λ b. ◌≡◌ {A = State × Reply} (cond {A = State × Reply} b (seen, ShardFull) (done (wrote change (has_id id (rows_to_come shard))))) (
      put_shards seen index (set index.shards at (cond {A = Shard × Reply} b (shard, ShardFull) (append_op shard op, mine)).0),
      (cond {A = Shard × Reply} b (shard, ShardFull) (append_op shard op, mine)).1,
    )) [ true ↦ ap with_reply (sym same) ∙ ap with_shards (sym (set_same index.shards at shard e)) | false ↦ ap done says ]

-- a write of an operation, or of a document that is refused, in the words of `write_by`
write_by_is : (seen : State) (index : Index) (id : List ℕ) (change : Change) → put_index index seen.indexes ≡ seen.indexes → (r : Result Op DocFault) → op_of index.mapping id change ≡ r
    → ◌≡◌ {A = State × Reply} (write_op seen index id change r) (put_shards seen index (write_by index.shards id r).0, (write_by index.shards id r).1)
write_by_is seen index id change same (Err fault) made =
    let with_reply : List Index → State × Reply = λ them. (record seen { indexes = them }, BadDoc fault) in ap with_reply (sym same)
write_by_is seen index id change same (Ok op) made =
    write_at_is seen index id change op made same (slice_get index.shards (shard_of id (length index.shards))) refl

-- a write at the found index
pub write_moves : {X : Type 0} {seen : X → Index} {name : List ℕ} {stores : List X} {at : ℕ} {store : X} → IsFound seen name stores at store
    → (id : List ℕ) (change : Change) (new : X) → seen new ≡ record (seen store) { shards = (seen new).shards } → (reply : Reply)
    → write_in (seen store).mapping (seen store).shards id change ≡ ((seen new).shards, reply)
    → Moves (λ state. happen state (Write name id change)) (map seen stores) (map seen (set stores at new)) reply
write_moves {seen = seen} {stores = stores} {store = store} found id change new like reply is state =
    let before : State = record state { indexes = map seen stores } in
    let put : List Shard × Reply → State × Reply = λ pair. (put_shards before (seen store) pair.0, pair.1) in
    turned found new like (λ at it. write at id change it) reply state
    (write_by_is before (seen store) id change (put_index-same found) (op_of (seen store).mapping id change) refl ∙ ap put is)

-- a publish of a shard, or of none, in the words of `publish_at`
publish_at_is : (seen : State) (index : Index) (at upto : ℕ) → put_index index seen.indexes ≡ seen.indexes
    → (o : Option Shard) → slice_get index.shards at ≡ o
    → ◌≡◌ {A = State × Reply} (publish_shard seen index at upto o) (put_shards seen index (publish_at index.shards at upto o), Done)
publish_at_is seen index at upto same None e =
    let with_reply : List Index → State × Reply = λ them. (record seen { indexes = them }, Done) in ap with_reply (sym same)
publish_at_is seen index at upto same (Some shard) e =
    let with_reply : List Index → State × Reply = λ them. (record seen { indexes = them }, Done) in
    let with_shards : List Shard → State × Reply = λ them. (put_shards seen index them, Done) in
    elim (ltb (last_number shard) upto) as (λ b. ◌≡◌ {A = State × Reply} (cond {A = State × Reply} b (seen, Done) (put_shard seen index at (publish shard upto), Done))
    (put_shards seen index (set index.shards at (cond b shard (publish shard upto))), Done))
    [ true ↦ ap with_reply (sym same) ∙ ap with_shards (sym (set_same index.shards at shard e)) | false ↦ refl ]

-- a publish at the found index
pub publish_moves : {X : Type 0} {seen : X → Index} {name : List ℕ} {stores : List X} {at : ℕ} {store : X} → IsFound seen name stores at store
    → (shard upto : ℕ) (new : X) → seen new ≡ record (seen store) { shards = (seen new).shards }
    → (seen new).shards ≡ publish_in (seen store).shards shard upto
    → Moves (λ state. happen state (Publish name shard upto)) (map seen stores) (map seen (set stores at new)) Done
publish_moves {seen = seen} {stores = stores} {store = store} found shard upto new like is state =
    let before : State = record state { indexes = map seen stores } in
    let put : List Shard → State × Reply = λ them. (put_shards before (seen store) them, Done) in
    turned found new like (λ at it. publish_index at shard upto it) Done state
    (publish_at_is before (seen store) shard upto (put_index-same found) (slice_get (seen store).shards shard) refl ∙ ap put (sym is))

-- a seal of the found index answers the last number of each shard
pub seal_moves : {X : Type 0} {seen : X → Index} {name : List ℕ} {stores : List X} {at : ℕ} {store : X} → IsFound seen name stores at store
    → (numbers : List ℕ) → numbers ≡ map last_number (seen store).shards
    → Moves (λ state. happen state (Seal name)) (map seen stores) (map seen stores) (Sealed numbers)
seal_moves {seen = seen} {stores = stores} found numbers is state =
    let before : State = record state { indexes = map seen stores } in
    let replied : List ℕ → State × Reply = λ them. (before, Sealed them) in
    ap (λ it. seal before it) found.there ∙ ap replied (sym is)
