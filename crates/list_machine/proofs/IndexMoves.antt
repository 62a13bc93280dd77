-- What a move keeps of the names and the shards of all indexes.
use Rattle.std.proofs.Common.{◌≡◌, ◌≢◌, ℕ, ◌+◌, ◌≤◌, true, false, inl, inr, ⊎_elim, List, [], ◌∷◌, zero, suc, length, get_or, Some, None, slice_set, All, AllPairs, bytes_eq, refl, sym, ap, ◌∙◌, subst, arith, length-set}
use Rattle.std.proofs.lemmas.Slice.Eq.{bytes_eq-Decides}
use Rattle.std.proofs.lemmas.Bool.{cond_both, cases_Bool, both_ways}
use Rattle.std.proofs.lemmas.List.{length-replicate}
use Rattle.std.proofs.lemmas.List.Elements.{All-cons, All-nil}
use Rattle.std.proofs.lemmas.List.Quantifiers.{all_pairs_push}
use Rattle.std.proofs.lemmas.List.Sums.{sum_by-cons, sum_by_push}
use Rattle.es_types.specs.declared.limits.TheConstants.{ALL_SHARDS}
use Rattle.list_machine.specs.declared.event.Event.{Event}
use Rattle.list_machine.specs.State.{Index, empty_shard, index_of, put_index, shard_count}
use Rattle.list_machine.proofs.Moves.{MovesIndexes, made}

-- an index that is found has that name
pub index_of_name : (name : List ℕ) (indexes : List Index) (index : Index) → index_of name indexes ≡ Some index → index.name ≡ name
index_of_name name [] index e = absurd (cc)
index_of_name name (first ∷ indexes) index e =
    ⊎_elim
    (λ (same : bytes_eq first.name name ≡ true).
    let is : Some first ≡ Some index = rw same at e in
    let at : first ≡ index = cc in
    ap (λ (it : Index). it.name) (sym at) ∙ (bytes_eq-Decides first.name name).0 same)
    (λ (other : bytes_eq first.name name ≡ false). index_of_name name indexes index (rw other at e))
    (cases_Bool (bytes_eq first.name name))

-- where none is found no index has that name
none_named : (name : List ℕ) (indexes : List Index) → index_of name indexes ≡ None → All (λ (index : Index). index.name ≢ name) indexes
none_named name [] e = All-nil (λ (index : Index). index.name ≢ name)
none_named name (first ∷ indexes) e =
    ⊎_elim
    (λ (same : bytes_eq first.name name ≡ true). let no : Some first ≡ None = rw same at e in absurd (cc))
    (λ (other : bytes_eq first.name name ≡ false).
    All-cons (λ (index : Index). index.name ≢ name) first indexes (λ named. both_ways (bytes_eq first.name name) other ((bytes_eq-Decides first.name name).1 named)) (none_named name indexes (rw other at e)))
    (cases_Bool (bytes_eq first.name name))

-- a put keeps the name at each place
put_index_name : (new : Index) (indexes : List Index) (k : ℕ) (d : Index) → (get_or (put_index new indexes) k d).name ≡ (get_or indexes k d).name
put_index_name new [] k d = refl
put_index_name new (index ∷ indexes) k d =
    cond_both (bytes_eq index.name new.name) (new ∷ indexes) (index ∷ put_index new indexes) (λ (them : List Index). (get_or them k d).name ≡ (get_or (index ∷ indexes) k d).name)
    (λ same. here k (sym ((bytes_eq-Decides index.name new.name).0 same)))
    (λ _. later (put_index_name new indexes) k)
  where
    here : (k : ℕ) → new.name ≡ index.name → (get_or (new ∷ indexes) k d).name ≡ (get_or (index ∷ indexes) k d).name
    here zero named = named
    here (suc k) named = refl

    later : ((k : ℕ) (d : Index) → (get_or (put_index new indexes) k d).name ≡ (get_or indexes k d).name) → (k : ℕ) → (get_or (index ∷ put_index new indexes) k d).name ≡ (get_or (index ∷ indexes) k d).name
    later rest zero = refl
    later rest (suc k) = rest k d

-- and how many there are
length-put_index : (new : Index) (indexes : List Index) → length (put_index new indexes) ≡ length indexes
length-put_index new [] = refl
length-put_index new (index ∷ indexes) =
    cond_both (bytes_eq index.name new.name) (new ∷ indexes) (index ∷ put_index new indexes) (λ (them : List Index). length them ≡ suc (length indexes))
    (λ _. refl) (λ _. ap suc (length-put_index new indexes))

-- a move keeps names apart
pub moves_names : (event : Event) (old new : List Index) → MovesIndexes event old new → AllPairs (λ (a b : Index). a.name ≢ b.name) old → AllPairs (λ (a b : Index). a.name ≢ b.name) new
moves_names event old new (inl same) h = subst (AllPairs (λ (a b : Index). a.name ≢ b.name)) (sym same) h
moves_names event old new (inr (inl m)) h =
    let changed : Index = record m.index { shards = slice_set m.index.shards m.at m.changed } in
    let put : AllPairs (λ (a b : Index). a.name ≢ b.name) (put_index changed old) =
    λ i j d less within e. h i j d less (omega (arith, within, length-put_index changed old)) (sym (put_index_name changed old i d) ∙ e ∙ put_index_name changed old j d) in
    subst (AllPairs (λ (a b : Index). a.name ≢ b.name)) (sym m.is) put
moves_names event old new (inr (inr m)) h =
    let others = none_named m.name old m.free in
    subst (AllPairs (λ (a b : Index). a.name ≢ b.name)) (sym m.is) (all_pairs_push (λ (a b : Index). a.name ≢ b.name) old (made m.name m.shards m.mapping) h (λ k d within. others k d within))

-- how many shards an index has
abbrev many_of : Index → ℕ
many_of index = length index.shards

-- a put of as many shards keeps how many there are
put_index_count : (new index : Index) (indexes : List Index) → length new.shards ≡ length index.shards → index_of new.name indexes ≡ Some index → shard_count (put_index new indexes) ≡ shard_count indexes
put_index_count new index [] many e = refl
put_index_count new index (first ∷ indexes) many e =
    ⊎_elim
    (λ (same : bytes_eq first.name new.name ≡ true).
    let is : Some first ≡ Some index = rw same at e in
    let at : first ≡ index = cc in
    rw same (sum_by-cons many_of new indexes ∙ ap (λ n. n + shard_count indexes) (many ∙ ap many_of (sym at)) ∙ sym (sum_by-cons many_of first indexes)))
    (λ (other : bytes_eq first.name new.name ≡ false).
    rw other (sum_by-cons many_of first (put_index new indexes) ∙ ap (λ n. length first.shards + n) (put_index_count new index indexes many (rw other at e)) ∙ sym (sum_by-cons many_of first indexes)))
    (cases_Bool (bytes_eq first.name new.name))

-- a move keeps that there are not more shards than there may be
pub moves_few : (event : Event) (old new : List Index) → MovesIndexes event old new → shard_count old ≤ ALL_SHARDS → shard_count new ≤ ALL_SHARDS
moves_few event old new (inl same) h = subst (λ them. shard_count them ≤ ALL_SHARDS) (sym same) h
moves_few event old new (inr (inl m)) h =
    let changed : Index = record m.index { shards = slice_set m.index.shards m.at m.changed } in
    let there : index_of m.index.name old ≡ Some m.index = ap (λ name. index_of name old) (index_of_name m.name old m.index m.there) ∙ m.there in
    omega (arith, h, ap shard_count m.is, put_index_count changed m.index old (length-set m.index.shards m.at m.changed) there)
moves_few event old new (inr (inr m)) h =
    omega (arith, m.room, ap shard_count m.is, sum_by_push many_of old (made m.name m.shards m.mapping), length-replicate m.shards empty_shard)

-- an index that is found has not more shards than all have
pub found_few : (name : List ℕ) (indexes : List Index) (index : Index) → index_of name indexes ≡ Some index → length index.shards ≤ shard_count indexes
found_few name [] index e = absurd (cc)
found_few name (first ∷ indexes) index e =
    ⊎_elim
    (λ (same : bytes_eq first.name name ≡ true).
    let is : Some first ≡ Some index = rw same at e in
    let at : first ≡ index = cc in
    omega (arith, ap many_of at, sum_by-cons many_of first indexes))
    (λ (other : bytes_eq first.name name ≡ false). omega (arith, found_few name indexes index (rw other at e), sum_by-cons many_of first indexes))
    (cases_Bool (bytes_eq first.name name))
