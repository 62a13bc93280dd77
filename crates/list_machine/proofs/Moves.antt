-- What a step does to a state.
use Rattle.std.proofs.Common.{◌≡◌, ◌≢◌, ℕ, ◌+◌, ◌≤◌, ◌==◌, Bool, true, false, ltb, ◌⊎◌, inl, inr, ⊎_elim, List, [], ◌∷◌, ◌++◌, length, map, Option, Some, None, Result, Ok, Err, slice_get, slice_set, replicate, All, find, bytes_eq, count_by, refl, sym, ap, subst, ◌∙◌, arith}
use Rattle.std.proofs.lemmas.Bool.{ltb-false, eqb-false, cond_both, cases_cond}
use Rattle.std.proofs.lemmas.List.{map-id}
use Rattle.std.proofs.lemmas.List.Elements.{All-cons, All-head, All-tail, All-push, All-replicate, All-set, All-weaker}
use Rattle.std.proofs.lemmas.Option.{get_or_from_slice_get, slice_get_within}
use Rattle.es_types.specs.declared.limits.TheConstants.{ALL_SHARDS}
use Rattle.es_types.specs.declared.fit.DocFault.{DocFault}
use Rattle.es_types.specs.declared.mapping.Field.{Field}
use Rattle.es_types.specs.declared.row.Op.{Op}
use Rattle.es_types.specs.declared.row.Op.TheVariants.{Put as PutOp, Remove as RemoveOp}
use Rattle.es_types.specs.declared.row.Value.{Value}
use Rattle.es_types.specs.Fields.{fit}
use Rattle.es_types.specs.Homes.{shard_of}
use Rattle.list_machine.specs.declared.event.Entry.{Entry}
use Rattle.list_machine.specs.declared.event.Event.{Event}
use Rattle.list_machine.specs.declared.event.Event.TheVariants.{Create, Write, Seal, Publish, OpenPit, Search, Close, Quiet}
use Rattle.list_machine.specs.declared.event.Target.TheVariants as target
use Rattle.list_machine.specs.declared.event.Change.{Change}
use Rattle.list_machine.specs.declared.event.Change.TheVariants.{Put, Remove}
use Rattle.list_machine.specs.declared.event.Which.{Which}
use Rattle.list_machine.specs.declared.event.Reply.{Reply}
use Rattle.list_machine.specs.declared.event.Reply.TheVariants.{Opened, TooMany}
use Rattle.list_machine.specs.declared.page.request.SearchRequest.{SearchRequest}
use Rattle.list_machine.specs.Rows.{Shard, last_number, publish}
use Rattle.list_machine.specs.State.{State, Index, Context, empty_shard, id_of, index_of, put_index, context_of, is_live, live_contexts, pit, shard_count, view_of}
use Rattle.list_machine.specs.Step.{is_full, op_of, put_op, append_op, create, write_shard, write_op, write, seal, publish_shard, publish_index, open_pit, search_index, search_pit, is_fit, keep_one, keep_longer, close_one, close, happen, at_moment, step}
use Rattle.list_machine.proofs.ContextMoves.{Keeps as KeepsEach, Rise, close_keeps, close_lives, keep_keeps, keep_lives}

-- what is found has what all have
pub find_All : {X : Type 0} (P : X → Type 0) (test : X → Bool) (xs : List X) (x : X) → All P xs → find test xs ≡ Some x → P x
find_All P test [] x all e = absurd (cc)
find_All P test (y ∷ ys) x all e =
    ⊎_elim
    (λ (same : Some x ≡ Some y). let eq : y ≡ x = cc in subst P eq (All-head P y ys all))
    (λ (later : Some x ≡ find test ys). find_All P test ys x (All-tail P y ys all) (sym later))
    (cases_cond (test y) (Some y) (find test ys) (Some x) (sym e))

-- what stands at a place has what all have
pub slice_get_All : {X : Type 0} (P : X → Type 0) (xs : List X) (k : ℕ) (x : X) → All P xs → slice_get xs k ≡ Some x → P x
slice_get_All P xs k x all e = subst P (get_or_from_slice_get xs k x x e) (all k x (slice_get_within xs k x e))

-- indexes have what the new one and the old ones have
pub put_index_All : (P : Index → Type 0) (new : Index) (indexes : List Index) → P new → All P indexes → All P (put_index new indexes)
put_index_All P new [] h all = all
put_index_All P new (index ∷ indexes) h all =
    cond_both (bytes_eq index.name new.name) (new ∷ indexes) (index ∷ put_index new indexes) (All P)
    (λ _. All-cons P new indexes h (All-tail P index indexes all))
    (λ _. All-cons P index (put_index new indexes) (All-head P index indexes all) (put_index_All P new indexes h (All-tail P index indexes all)))

-- an operation that an event may add to an index of that mapping
abbrev pub IsOpIn : Event → List Field → Op → Type 0
IsOpIn (Write name id change) mapping op = op_of mapping id change ≡ Ok op
IsOpIn event mapping op = ⊥

-- or to an index of any mapping
abbrev pub IsOpOf : Event → Op → Type 0
IsOpOf event op = (mapping : List Field) × IsOpIn event mapping op

-- and whose document stands at that place among so many shards
pub record IsOpAt (event : Event) (mapping : List Field) (at shards : ℕ) (op : Op) : Type 0 where
  pub of : IsOpIn event mapping op
  pub home : shard_of (id_of op) shards ≡ at

-- a shard before and after a write or a publish
abbrev pub Changed : (Op → Type 0) → Shard → Shard → Type 0
Changed Q old new =
    ((op : Op) × Q op × (is_full old ≡ false) × (new ≡ append_op old op))
    ⊎ ((upto : ℕ) × (upto ≤ last_number old) × (new ≡ publish old upto))

-- the limits stay, and the moment does not fall
pub record Keeps (old new : State) : Type 0 where
  pub limits : new.limits ≡ old.limits
  pub moment : old.moment ≤ new.moment

-- a shard changes
pub record Puts (event : Event) (old new : List Index) : Type 0 where
  pub name : List ℕ
  pub index : Index
  pub at : ℕ
  pub shard : Shard
  pub changed : Shard
  pub there : index_of name old ≡ Some index
  pub has : slice_get index.shards at ≡ Some shard
  pub changes : Changed (IsOpAt event index.mapping at (length index.shards)) shard changed
  pub is : new ≡ put_index (record index { shards = slice_set index.shards at changed }) old

-- the index that an event makes
abbrev pub made : List ℕ → ℕ → List Field → Index
made name shards mapping = record { name = name; mapping = mapping; shards = replicate shards empty_shard }

-- an index is made, of a new name, where there may be so many shards
pub record Makes (event : Event) (old new : List Index) : Type 0 where
  pub name : List ℕ
  pub shards : ℕ
  pub mapping : List Field
  pub creates : event ≡ Create name shards mapping
  pub free : index_of name old ≡ None
  pub room : shard_count old + shards ≤ ALL_SHARDS
  pub is : new ≡ old ++ made name shards mapping ∷ []

-- what becomes of the indexes
abbrev pub MovesIndexes : Event → List Index → List Index → Type 0
MovesIndexes event old new = (new ≡ old) ⊎ (Puts event old new ⊎ Makes event old new)

-- no context is opened, each has its number and its view for good, and not more are live
pub record Stays (old new : State) : Type 0 where
  pub to : Context → Context
  pub keeps : KeepsEach to
  pub contexts : new.contexts ≡ map to old.contexts
  pub next : new.next ≡ old.next
  pub lives : Rise old.contexts → count_by (is_live new.moment) new.contexts ≤ count_by (is_live new.moment) old.contexts

-- a context is opened, where not as many are live as may be
pub record Grows (old new : State) : Type 0 where
  pub name : List ℕ
  pub index : Index
  pub expiry : ℕ
  pub there : index_of name old.indexes ≡ Some index
  pub room : count_by (is_live new.moment) old.contexts ≢ old.limits.pits
  pub contexts : new.contexts ≡ old.contexts ++ pit old.next (view_of index) expiry ∷ []
  pub next : new.next ≡ old.next + 1

-- what becomes of the contexts
abbrev pub MovesContexts : State → State → Type 0
MovesContexts old new = Stays old new ⊎ Grows old new

-- what one step may do
pub record Moves (event : Event) (old new : State) : Type 0 where
  pub kept : Keeps old new
  pub indexes : MovesIndexes event old.indexes new.indexes
  pub contexts : MovesContexts old new

-- no context changes
unmoved : (old new : State) → new.contexts ≡ old.contexts → new.next ≡ old.next → Stays old new
unmoved old new contexts next =
    record {
      to = λ context. context;
      keeps = λ context. refl;
      contexts = contexts ∙ sym (map-id old.contexts);
      next = next;
      lives = λ rise. omega (arith, ap (count_by (is_live new.moment)) contexts);
    }

-- the moment moves alone
stays : (event : Event) (state : State) (moment : ℕ) → Moves event state (at_moment state moment)
stays event state moment =
    record { kept = record { limits = refl; moment = omega arith }; indexes = inl refl; contexts = inl (unmoved state (at_moment state moment) refl refl) }

-- the indexes alone move
turns : (event : Event) (state : State) (moment : ℕ) (new : List Index) → MovesIndexes event state.indexes new → Moves event state (record state { moment = (at_moment state moment).moment; indexes = new })
turns event state moment new m =
    record {
      kept = record { limits = refl; moment = omega arith };
      indexes = m;
      contexts = inl (unmoved state (record state { moment = (at_moment state moment).moment; indexes = new }) refl refl);
    }

-- a making moves
create_moves : (state : State) (moment : ℕ) (name : List ℕ) (shards : ℕ) (mapping : List Field) (o : Option Index) → index_of name state.indexes ≡ o → Moves (Create name shards mapping) state (create (at_moment state moment) name shards mapping o).0
create_moves state moment name shards mapping (Some index) e = stays (Create name shards mapping) state moment
create_moves state moment name shards mapping None e =
    cond_both (ltb ALL_SHARDS (shard_count state.indexes + shards)) _ _ (λ (r : State × Reply). Moves (Create name shards mapping) state r.0)
    (λ _. stays (Create name shards mapping) state moment)
    (λ room. turns (Create name shards mapping) state moment (state.indexes ++ made name shards mapping ∷ []) (inr (inr (record {
      name = name;
      shards = shards;
      mapping = mapping;
      creates = refl;
      free = e;
      room = ltb-false ALL_SHARDS (shard_count state.indexes + shards) room;
      is = refl;
    }))))

-- the operation that a put is has the put's id
put_op_id : (id source : List ℕ) (r : Result (List Value) DocFault) (op : Op) → put_op id source r ≡ Ok op → id_of op ≡ id
put_op_id id source (Ok values) op e = let same : PutOp id source values ≡ op = cc in sym (ap id_of same)
put_op_id id source (Err fault) op e = absurd (cc)

-- the operation of a change has the id of the change
op_of_id : (mapping : List Field) (id : List ℕ) (change : Change) (op : Op) → op_of mapping id change ≡ Ok op → id_of op ≡ id
op_of_id mapping id (Put doc) op e = put_op_id id doc.source (fit mapping doc.members) op e
op_of_id mapping id Remove op e = let same : RemoveOp id ≡ op = cc in sym (ap id_of same)

-- a write to a shard, or to none, moves
write_shard_moves : (state : State) (moment : ℕ) (name : List ℕ) (index : Index) (id : List ℕ) (change : Change) (op : Op) → op_of index.mapping id change ≡ Ok op → index_of name state.indexes ≡ Some index → (o : Option Shard) → slice_get index.shards (shard_of id (length index.shards)) ≡ o → Moves (Write name id change) state (write_shard (at_moment state moment) index id change op o).0
write_shard_moves state moment name index id change op is there None e = stays (Write name id change) state moment
write_shard_moves state moment name index id change op is there (Some shard) e =
    let at = shard_of id (length index.shards) in
    cond_both (is_full shard) _ _ (λ (r : State × Reply). Moves (Write name id change) state r.0)
    (λ _. stays (Write name id change) state moment)
    (λ free. turns (Write name id change) state moment (put_index (record index { shards = slice_set index.shards at (append_op shard op) }) state.indexes) (inr (inl (record {
      name = name;
      index = index;
      at = at;
      shard = shard;
      changed = append_op shard op;
      there = there;
      has = e;
      changes = inl (op, record { of = is; home = ap (λ it. shard_of it (length index.shards)) (op_of_id index.mapping id change op is) }, free, refl);
      is = refl;
    }))))

-- a write of an operation, or of a document that is refused, moves
write_op_moves : (state : State) (moment : ℕ) (name : List ℕ) (index : Index) (id : List ℕ) (change : Change) → index_of name state.indexes ≡ Some index → (r : Result Op DocFault) → op_of index.mapping id change ≡ r → Moves (Write name id change) state (write_op (at_moment state moment) index id change r).0
write_op_moves state moment name index id change there (Err fault) e = stays (Write name id change) state moment
write_op_moves state moment name index id change there (Ok op) e =
    write_shard_moves state moment name index id change op e there (slice_get index.shards (shard_of id (length index.shards))) refl

-- a write to an index, or to none, moves
write_moves : (state : State) (moment : ℕ) (name id : List ℕ) (change : Change) (o : Option Index) → index_of name state.indexes ≡ o → Moves (Write name id change) state (write (at_moment state moment) id change o).0
write_moves state moment name id change None e = stays (Write name id change) state moment
write_moves state moment name id change (Some index) e = write_op_moves state moment name index id change e (op_of index.mapping id change) refl

-- a seal moves
seal_moves : (state : State) (moment : ℕ) (name : List ℕ) (o : Option Index) → Moves (Seal name) state (seal (at_moment state moment) o).0
seal_moves state moment name None = stays (Seal name) state moment
seal_moves state moment name (Some index) = stays (Seal name) state moment

-- a publish of a shard, or of none, moves
publish_shard_moves : (state : State) (moment : ℕ) (name : List ℕ) (index : Index) (at upto : ℕ) → index_of name state.indexes ≡ Some index → (o : Option Shard) → slice_get index.shards at ≡ o → Moves (Publish name at upto) state (publish_shard (at_moment state moment) index at upto o).0
publish_shard_moves state moment name index at upto there None e = stays (Publish name at upto) state moment
publish_shard_moves state moment name index at upto there (Some shard) e =
    cond_both (ltb (last_number shard) upto) _ _ (λ (r : State × Reply). Moves (Publish name at upto) state r.0)
    (λ _. stays (Publish name at upto) state moment)
    (λ reached. turns (Publish name at upto) state moment (put_index (record index { shards = slice_set index.shards at (publish shard upto) }) state.indexes) (inr (inl (record {
      name = name;
      index = index;
      at = at;
      shard = shard;
      changed = publish shard upto;
      there = there;
      has = e;
      changes = inr (upto, ltb-false (last_number shard) upto reached, refl);
      is = refl;
    }))))

-- a publish in an index, or in none, moves
publish_moves : (state : State) (moment : ℕ) (name : List ℕ) (at upto : ℕ) (o : Option Index) → index_of name state.indexes ≡ o → Moves (Publish name at upto) state (publish_index (at_moment state moment) at upto o).0
publish_moves state moment name at upto None e = stays (Publish name at upto) state moment
publish_moves state moment name at upto (Some index) e = publish_shard_moves state moment name index at upto e (slice_get index.shards at) refl

-- the state with one more context
abbrev pub opened : State → ℕ → Index → State
opened state keep index = record state {
  next = state.next + 1;
  contexts = state.contexts ++ pit state.next (view_of index) (state.moment + keep) ∷ [];
}

-- an opening moves
open_moves : (state : State) (moment : ℕ) (name : List ℕ) (keep : ℕ) (o : Option Index) → index_of name state.indexes ≡ o → Moves (OpenPit name keep) state (open_pit (at_moment state moment) keep o).0
open_moves state moment name keep None e = stays (OpenPit name keep) state moment
open_moves state moment name keep (Some index) e =
    let now : State = at_moment state moment in
    cond_both (live_contexts now == now.limits.pits) (now, TooMany now.limits.pits) (opened now keep index, Opened now.next)
    (λ (r : State × Reply). Moves (OpenPit name keep) state r.0)
    (λ _. stays (OpenPit name keep) state moment)
    (λ free. record {
      kept = record { limits = refl; moment = omega arith };
      indexes = inl refl;
      contexts = inr (record {
        name = name;
        index = index;
        expiry = now.moment + keep;
        there = e;
        room = eqb-false (live_contexts now) now.limits.pits free;
        contexts = refl;
        next = refl;
      });
    })

-- a live context that is kept longer, where that is asked, moves
keep_moves : (event : Event) (state : State) (moment number : ℕ) (keep : Option ℕ) (context : Context) → context_of number state.contexts ≡ Some context → is_live (at_moment state moment).moment context ≡ true
    → Moves event state (keep_longer (at_moment state moment) number keep)
keep_moves event state moment number None context e live = stays event state moment
keep_moves event state moment number (Some keep) context e live =
    let now : ℕ = (at_moment state moment).moment in
    record {
      kept = record { limits = refl; moment = omega arith };
      indexes = inl refl;
      contexts = inl (record {
        to = keep_one now number keep;
        keeps = keep_keeps now number keep;
        contexts = refl;
        next = refl;
        lives = keep_lives now number keep state.contexts context e live;
      });
    }

-- a search of a context, or of none, moves
search_moves : (event : Event) (state : State) (moment number : ℕ) (keep : Option ℕ) (request : SearchRequest) (o : Option Context) → context_of number state.contexts ≡ o
    → Moves event state (search_pit (at_moment state moment) number keep request o).0
search_moves event state moment number keep request None e = stays event state moment
search_moves event state moment number keep request (Some context) e =
    let now : State = at_moment state moment in
    cond_both (is_live now.moment context) _ _ (λ (r : State × Reply). Moves event state r.0)
    (λ live.
    cond_both (is_fit context.view request) (keep_longer now number keep) now (λ (it : State). Moves event state it)
    (λ _. keep_moves event state moment number keep context e live) (λ _. stays event state moment))
    (λ _. stays event state moment)

-- a closing moves
close_moves : (state : State) (moment : ℕ) (which : Which) → Moves (Close which) state (close (at_moment state moment) which).0
close_moves state moment which =
    let now : ℕ = (at_moment state moment).moment in
    record {
      kept = record { limits = refl; moment = omega arith };
      indexes = inl refl;
      contexts = inl (record {
        to = close_one now which;
        keeps = close_keeps now which;
        contexts = refl;
        next = refl;
        lives = λ rise. close_lives now which state.contexts;
      });
    }

-- a search of an index, or of none, moves
search_index_moves : (event : Event) (state : State) (moment : ℕ) (request : SearchRequest) (o : Option Index) → Moves event state (search_index (at_moment state moment) request o).0
search_index_moves event state moment request None = stays event state moment
search_index_moves event state moment request (Some index) = stays event state moment

-- each event moves
happen_moves : (state : State) (moment : ℕ) (event : Event) → Moves event state (happen (at_moment state moment) event).0
happen_moves state moment (Create name shards mapping) = create_moves state moment name shards mapping (index_of name state.indexes) refl
happen_moves state moment (Write name id change) = write_moves state moment name id change (index_of name state.indexes) refl
happen_moves state moment (Seal name) = seal_moves state moment name (index_of name state.indexes)
happen_moves state moment (Publish name at upto) = publish_moves state moment name at upto (index_of name state.indexes) refl
happen_moves state moment (OpenPit name keep) = open_moves state moment name keep (index_of name state.indexes) refl
happen_moves state moment (Search (target.Index name) request) = search_index_moves (Search (target.Index name) request) state moment request (index_of name state.indexes)
happen_moves state moment (Search (target.Pit number keep) request) =
    search_moves (Search (target.Pit number keep) request) state moment number keep request (context_of number state.contexts) refl
happen_moves state moment (Close which) = close_moves state moment which
happen_moves state moment Quiet = stays Quiet state moment

-- each step is a move
pub step_moves : (state : State) (entry : Entry) → Moves entry.event state (step state entry).0
step_moves state entry = happen_moves state entry.moment entry.event

-- what a change of a shard makes of an index, and what a new index has, a move makes of all indexes
pub moves_indexes : (event : Event) (P R : Index → Type 0) → ((index : Index) → P index → R index)
    → ((index : Index) (at : ℕ) (shard changed : Shard) → slice_get index.shards at ≡ Some shard → Changed (IsOpAt event index.mapping at (length index.shards)) shard changed → P index → R (record index { shards = slice_set index.shards at changed }))
    → ((name : List ℕ) (shards : ℕ) (mapping : List Field) → event ≡ Create name shards mapping → shards ≤ ALL_SHARDS → R (made name shards mapping))
    → (old new : List Index) → MovesIndexes event old new → All P old → All R new
moves_indexes event P R weaker makes fresh old new (inl same) all = subst (All R) (sym same) (All-weaker P R weaker old all)
moves_indexes event P R weaker makes fresh old new (inr (inl m)) all =
    let was : P m.index = find_All P (λ (index : Index). bytes_eq index.name m.name) old m.index all m.there in
    subst (All R) (sym m.is) (put_index_All R (record m.index { shards = slice_set m.index.shards m.at m.changed }) old (makes m.index m.at m.shard m.changed m.has m.changes was) (All-weaker P R weaker old all))
moves_indexes event P R weaker makes fresh old new (inr (inr m)) all =
    subst (All R) (sym m.is) (All-push R old (made m.name m.shards m.mapping) (All-weaker P R weaker old all) (fresh m.name m.shards m.mapping m.creates (omega (arith, m.room))))

-- what a change makes of a shard, and what an empty one has, a move makes of all shards
pub moves_shards : (event : Event) (P R : Shard → Type 0) → ((shard : Shard) → P shard → R shard)
    → ((old new : Shard) → Changed (IsOpOf event) old new → P old → R new) → R empty_shard
    → (old new : List Index) → MovesIndexes event old new → All (λ (index : Index). All P index.shards) old → All (λ (index : Index). All R index.shards) new
moves_shards event P R weaker makes empty =
    moves_indexes event (λ (index : Index). All P index.shards) (λ (index : Index). All R index.shards)
    (λ index all. All-weaker P R weaker index.shards all)
    (λ index at shard changed has changes all.
    All-set R index.shards at changed (makes shard changed (any_home event index.mapping at (length index.shards) shard changed changes) (slice_get_All P index.shards at shard all has)) (All-weaker P R weaker index.shards all))
    (λ name shards mapping creates few. All-replicate R shards empty_shard empty)
  where
    any_home : (event : Event) (mapping : List Field) (at shards : ℕ) (old new : Shard) → Changed (IsOpAt event mapping at shards) old new → Changed (IsOpOf event) old new
    any_home event mapping at shards old new (inl c) = inl (c.0, (mapping, c.1.of), c.2, c.3)
    any_home event mapping at shards old new (inr c) = inr c
