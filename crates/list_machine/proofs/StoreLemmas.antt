-- The shards of an index in its list: what is read and written there.
use Rattle.std.proofs.Common.{◌≡◌, Global, Vec, ℕ, zero, suc, ◌+◌, ◌<◌, ◌≤◌, List, [], ◌∷◌, ◌++◌, length, map, take, drop, set, get_or, slice_get, Some, Result, Ok, Err, IfOk, refl, sym, ap, ap₂, ◌∙◌, subst, arith, append-nil}
use Rattle.std.specs.List.{All}
use Rattle.std.specs.Option.{option_map}
use Rattle.std.proofs.lemmas.List.{drop_all, get_or-map, length-map, map-set, take_all}
use Rattle.std.proofs.lemmas.Option.{slice_get-map, slice_get_read}
use Rattle.es_types.specs.declared.mapping.Field.{Field}
use Rattle.es_types.specs.declared.row.Op.{Op}
use Rattle.es_types.specs.declared.row.Row.{Row}
use Rattle.es_types.specs.Homes.{shard_of}
use Rattle.list_machine.specs.declared.event.Change.{Change}
use Rattle.list_machine.specs.declared.event.Reply.{Reply}
use Rattle.list_machine.specs.declared.store.ShardStore.{ShardStore}
use Rattle.list_machine.specs.Rows.{Shard}
use Rattle.list_machine.specs.Step.{op_of}
use Rattle.list_machine.specs.Changes.{publish_at, publish_in, publish_of, write_at, write_by, write_in, write_of}
use Rattle.list_machine.specs.Seen.Stores.{shard_seen, shards_seen}

-- the rows in a list
abbrev pub rows_in : Vec Row Global → List Row
rows_in rows = rows.items

-- what holds of all that a function made holds of what it made of each
pub All-from_map : {X Y : Type 0} (P : Y → Type 0) (f : X → Y) (xs : List X) → All P (map f xs) → All (λ x. P (f x)) xs
All-from_map P f xs all k d less = subst P (get_or-map f xs k d (f d) less) (all k (f d) (omega (arith, length-map xs f, less)))

-- what holds of all holds of what is read
pub All-read : {X : Type 0} (P : X → Type 0) (xs : List X) (i : ℕ) (x : X) → i < length xs → x ≡ get_or xs i x → All P xs → P x
All-read P xs i x less is all = subst P (sym is) (all i x less)

-- the shard that is read is seen at its place
seen_at : (stores : List ShardStore) (at : ℕ) (store : ShardStore) → at < length stores → store ≡ get_or stores at store
    → slice_get (shards_seen stores) at ≡ Some (shard_seen store)
seen_at stores at store less is =
    slice_get-map shard_seen stores at ∙ ap (option_map shard_seen) (slice_get_read stores (length stores) at store refl less is)

-- a publish of the shard that is read
pub publish_in_is : (stores : List ShardStore) (at upto : ℕ) (old new : ShardStore) → at < length stores → old ≡ get_or stores at old
    → shard_seen new ≡ publish_of (shard_seen old) upto → shards_seen (set stores at new) ≡ publish_in (shards_seen stores) at upto
publish_in_is stores at upto old new less is makes =
    map-set shard_seen stores at new
    ∙ ap (set (shards_seen stores) at) makes
    ∙ sym (ap (publish_at (shards_seen stores) at upto) (seen_at stores at old less is))

-- a write to the shard that is read, which is the document's
write_in_is : (mapping : List Field) (stores : List ShardStore) (id : List ℕ) (change : Change) (op : Op) (home : ℕ) (old new : ShardStore) (reply : Reply)
    → op_of mapping id change ≡ Ok op → home ≡ shard_of id (length stores) → home < length stores → old ≡ get_or stores home old
    → write_of (shard_seen old) op ≡ (shard_seen new, reply)
    → write_in mapping (shards_seen stores) id change ≡ (shards_seen (set stores home new), reply)
write_in_is mapping stores id change op home old new reply made homes less is writes =
    let shards = shards_seen stores in
    let at = shard_of id (length shards) in
    let same : at ≡ home = ap (shard_of id) (length-map stores shard_seen) ∙ sym homes in
    let put : Shard × Reply → ℕ → List Shard × Reply = λ pair k. (set shards k pair.0, pair.1) in
    let with_reply : List Shard → List Shard × Reply = λ them. (them, reply) in
    ap (write_by shards id) made
    ∙ ap (write_at shards id op) (ap (slice_get shards) same ∙ seen_at stores home old less is)
    ∙ ap₂ put writes same
    ∙ ap with_reply (sym (map-set shard_seen stores home new))

-- the same by the call's result
pub write_in_done : (mapping : List Field) (stores : List ShardStore) (id : List ℕ) (change : Change) (op : Op) (home : ℕ) (old new : ShardStore)
    → op_of mapping id change ≡ Ok op → home ≡ shard_of id (length stores) → home < length stores → old ≡ get_or stores home old
    → {E : Type 0} (r : Result Reply E) → IfOk r (λ reply. write_of (shard_seen old) op ≡ (shard_seen new, reply))
    → IfOk r (λ reply. write_in mapping (shards_seen stores) id change ≡ (shards_seen (set stores home new), reply))
write_in_done mapping stores id change op home old new made homes less is (Ok reply) writes =
    write_in_is mapping stores id change op home old new reply made homes less is writes
write_in_done mapping stores id change op home old new made homes less is (Err e) writes = tt

-- Where the elements up to a place are changed and the others are as they were, one more is changed.
pub changed_upto : {X Y : Type 0} (see : X → Y) (to : Y → Y) (olds : List Y) (news : List X) (at : ℕ) (old new : X) → at < length news → map see news ≡ map to (take at olds) ++ drop at olds
    → old ≡ get_or news at old → see new ≡ to (see old) → map see (set news at new) ≡ map to (take (at + 1) olds) ++ drop (at + 1) olds
changed_upto {X = X} {Y = Y} see to olds news at old new within so_far is makes =
    let more : suc at ≡ at + 1 = omega arith in
    subst (λ n. map see (set news at new) ≡ map to (take n olds) ++ drop n olds) more (go olds news at within so_far is)
  where
    go : (olds : List Y) (news : List X) (at : ℕ) → at < length news → map see news ≡ map to (take at olds) ++ drop at olds → old ≡ get_or news at old
        → map see (set news at new) ≡ map to (take (suc at) olds) ++ drop (suc at) olds
    go olds [] at within so_far is = absurd (omega arith)
    go [] (x ∷ xs) zero within so_far is = absurd (cc)
    go [] (x ∷ xs) (suc at) within so_far is = absurd (cc)
    go (y ∷ ys) (x ∷ xs) zero within so_far is =
        let head : see x ≡ y = cc in
        let tail : map see xs ≡ ys = cc in
        ap₂ (λ h t. h ∷ t) (makes ∙ ap to (ap see is ∙ head)) tail
    go (y ∷ ys) (x ∷ xs) (suc at) within so_far is =
        let head : see x ≡ to y = cc in
        let tail : map see xs ≡ map to (take at ys) ++ drop at ys = cc in
        ap₂ (λ h t. h ∷ t) head (go ys xs at (omega arith) tail is)

-- Once all are changed, none is as it was.
pub changed_all : {X Y : Type 0} (see : X → Y) (to : Y → Y) (olds : List Y) (news : List X) (at : ℕ) → length olds ≤ at → map see news ≡ map to (take at olds) ++ drop at olds
    → map see news ≡ map to olds
changed_all see to olds news at past so_far =
    so_far ∙ ap₂ (λ a b. map to a ++ b) (take_all at olds past) (drop_all at olds past) ∙ append-nil (map to olds)
