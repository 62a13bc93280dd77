-- Each state that the machine comes to is sound.
use Rattle.std.proofs.Common.{◌≡◌, ℕ, ◌+◌, ◌<◌, ◌≤◌, cond, inl, inr, List, [], ◌∷◌, ◌++◌, map, All, AllPairs, bytes_eq, count_by, Result, Ok, Err, refl, sym, ap, subst, subst₂, arith}
use Rattle.std.proofs.lemmas.List.Elements.{All-nil, All-cons, All-head, All-tail, All-push, All-weaker, All-map}
use Rattle.std.proofs.lemmas.List.Quantifiers.{all_pairs_push}
use Rattle.std.proofs.lemmas.List.Sums.{sum_by-le-sum_by, sum_by_push}
use Rattle.std.proofs.lemmas.Bool.Decides.{nat_tests}
use Rattle.es_types.specs.declared.fit.DocFault.{DocFault}
use Rattle.es_types.specs.declared.row.Op.{Op}
use Rattle.es_types.specs.declared.row.Op.TheVariants.{Put as PutOp, Remove as RemoveOp}
use Rattle.es_types.specs.declared.row.Row.{Row}
use Rattle.es_types.specs.declared.row.Value.{Value}
use Rattle.es_types.specs.Fields.{fit}
use Rattle.list_machine.specs.declared.event.Entry.{Entry}
use Rattle.list_machine.specs.declared.event.Limits.{Limits}
use Rattle.list_machine.specs.declared.event.Event.{Event}
use Rattle.list_machine.specs.declared.event.Event.TheVariants.{Create, Write, Seal, Publish, OpenPit, Search, Close, Quiet}
use Rattle.list_machine.specs.declared.event.Change.TheVariants.{Put, Remove}
use Rattle.list_machine.specs.Rows.{Shard}
use Rattle.list_machine.specs.Objects.{AreObjects, IsObject, PutsObjectOp}
use Rattle.list_machine.specs.Views.{View}
use Rattle.list_machine.specs.State.{AreHomes, State, Index, Context, IsSoundShard, IsSound, HasObjects, empty_shard, docs, start, view_of, is_live, live_contexts, pit}
use Rattle.list_machine.specs.Step.{put_op, step}
use Rattle.list_machine.specs.Run.{History, run, state_of, PutsObject}
use Rattle.list_machine.proofs.ShardLemmas.{publish_sound, append_sound, publish_All}
use Rattle.list_machine.proofs.ContextMoves.{Rise, kept_issued, kept_rise, kept_views}
use Rattle.list_machine.proofs.Moves.{find_All, Changed, IsOpOf, Keeps, Moves, MovesContexts, made, step_moves, moves_shards}
use Rattle.list_machine.proofs.IndexMoves.{moves_few, moves_names}
use Rattle.list_machine.proofs.Homes.{made_homes, moves_homes}
use Rattle.list_machine.proofs.Mapped.{HaveAll, ViewHas, made_values, moves_values, moves_view_values}

-- the empty shard is sound
empty_sound : IsSoundShard empty_shard
empty_sound = record {
  ids_differ = λ i j d a b. absurd (omega arith);
  rising = λ i j d a b. absurd (omega arith);
  applied = λ k d l. absurd (omega arith);
  few = omega arith;
}

-- a changed shard is sound
changed_sound : (Q : Op → Type 0) (old new : Shard) → Changed Q old new → IsSoundShard old → IsSoundShard new
changed_sound Q old new (inl c) h = subst IsSoundShard (sym c.3) (append_sound old c.0 c.2 h)
changed_sound Q old new (inr c) h = subst IsSoundShard (sym c.2) (publish_sound old c.0 c.1 h)

-- the contexts' numbers rise and are below the next
pub record SoundContexts (contexts : List Context) (next : ℕ) : Type 0 where
  pub issued : All (λ (context : Context). context.number < next) contexts
  pub numbers_rise : AllPairs (λ (a b : Context). a.number < b.number) contexts

-- one more context, of the next number
push_context : (contexts : List Context) (next : ℕ) (context : Context) → context.number ≡ next → SoundContexts contexts next → SoundContexts (contexts ++ context ∷ []) (next + 1)
push_context contexts next context e h =
    record {
      issued = All-push (λ (c : Context). c.number < next + 1) contexts context (All-weaker (λ (c : Context). c.number < next) (λ (c : Context). c.number < next + 1) (λ x l. omega arith) contexts h.issued) (omega arith);
      numbers_rise = all_pairs_push (λ (a b : Context). a.number < b.number) contexts context h.numbers_rise (λ k d l. let below = h.issued k d l in omega (arith, below, e));
    }

-- a move keeps the contexts sound
moves_contexts : (old new : State) → MovesContexts old new → SoundContexts old.contexts old.next → SoundContexts new.contexts new.next
moves_contexts old new (inl m) h =
    subst₂ SoundContexts (sym m.contexts) (sym m.next) (record {
      issued = kept_issued m.to m.keeps old.next old.contexts h.issued;
      numbers_rise = kept_rise m.to m.keeps old.contexts h.numbers_rise;
    })
moves_contexts old new (inr m) h =
    subst₂ SoundContexts (sym m.contexts) (sym m.next) (push_context old.contexts old.next (pit old.next (view_of m.index) m.expiry) refl h)

-- as time goes on, fewer are live
live_later : (contexts : List Context) (early late : ℕ) → early ≤ late → count_by (is_live late) contexts ≤ count_by (is_live early) contexts
live_later contexts early late l =
    sum_by-le-sum_by (λ (context : Context). cond (is_live late context) 1 0) (λ (context : Context). cond (is_live early context) 1 0) contexts
    (λ context. grind (arith, nat_tests))

-- one more context is at most one more that is live
live_push : (moment : ℕ) (contexts : List Context) (context : Context) → count_by (is_live moment) (contexts ++ context ∷ []) ≤ count_by (is_live moment) contexts + 1
live_push moment contexts context =
    rw (sum_by_push (λ (context : Context). cond (is_live moment context) 1 0) contexts context) (grind (arith, nat_tests))

-- no more are live than may be, of the contexts that were there before a move
live_before : (old new : State) → Keeps old new → live_contexts old ≤ old.limits.pits → count_by (is_live new.moment) old.contexts ≤ new.limits.pits
live_before old new k h =
    omega (arith, live_later old.contexts old.moment new.moment k.moment, h, ap (λ (limits : Limits). limits.pits) k.limits)

-- no more are live than may be, once a move was made
moves_limited : (old new : State) → Keeps old new → MovesContexts old new → Rise old.contexts → live_contexts old ≤ old.limits.pits → live_contexts new ≤ new.limits.pits
moves_limited old new k (inl m) rise h = omega (arith, m.lives rise, live_before old new k h)
moves_limited old new k (inr m) rise h =
    let context : Context = pit old.next (view_of m.index) m.expiry in
    subst (λ contexts. count_by (is_live new.moment) contexts ≤ new.limits.pits) (sym m.contexts)
    (omega (arith, live_before old new k h, live_push new.moment old.contexts context, m.room, ap (λ (limits : Limits). limits.pits) k.limits))

-- a move keeps a state sound
moves_sound : (event : Event) (old new : State) → Moves event old new → IsSound old → IsSound new
moves_sound event old new m h =
    let contexts = moves_contexts old new m.contexts (record { issued = h.issued; numbers_rise = h.numbers_rise }) in
    record {
      shards = moves_shards event IsSoundShard IsSoundShard (λ shard sound. sound) (changed_sound (IsOpOf event)) empty_sound old.indexes new.indexes m.indexes h.shards;
      homes = moves_homes event old.indexes new.indexes m.indexes h.homes;
      values = moves_values event old.indexes new.indexes m.indexes h.values;
      view_values = moves_view_values old new m.contexts h.values h.view_values;
      names_differ = moves_names event old.indexes new.indexes m.indexes h.names_differ;
      few = moves_few event old.indexes new.indexes m.indexes h.few;
      issued = contexts.issued;
      numbers_rise = contexts.numbers_rise;
      limited = moves_limited old new m.kept m.contexts h.numbers_rise h.limited;
    }

-- a step keeps a state sound
pub step_sound : (state : State) (entry : Entry) → IsSound state → IsSound (step state entry).0
step_sound state entry h = moves_sound entry.event state (step state entry).0 (step_moves state entry) h

-- a run keeps a state sound
pub run_sound : (history : History) (state : State) → IsSound state → IsSound (run state history)
run_sound [] state h = h
run_sound (entry ∷ history) state h = run_sound history (step state entry).0 (step_sound state entry h)

-- the first state is sound
pub start_sound : (limits : Limits) → IsSound (start limits)
start_sound limits =
    let index : Index = made docs 1 [] in
    record {
      shards = All-cons (λ (index : Index). All IsSoundShard index.shards) index [] (All-cons IsSoundShard empty_shard [] empty_sound (All-nil IsSoundShard)) (All-nil (λ (index : Index). All IsSoundShard index.shards));
      homes = All-cons AreHomes index [] (made_homes docs 1 []) (All-nil AreHomes);
      values = All-cons HaveAll index [] (made_values docs 1 []) (All-nil HaveAll);
      view_values = All-nil (λ (context : Context). ViewHas context.view);
      names_differ = λ i j d a b. absurd (omega arith);
      few = omega arith;
      issued = λ k d l. absurd (omega arith);
      numbers_rise = λ i j d a b. absurd (omega arith);
      limited = omega arith;
    }

-- each state that the machine comes to is sound
pub state_sound : (limits : Limits) (history : History) → IsSound (state_of limits history)
state_sound limits history = run_sound history (start limits) (start_sound limits)

-- the rows and the waiting puts of a shard are objects
abbrev HasShardObjects : Shard → Type 0
HasShardObjects shard = AreObjects shard.rows × All PutsObjectOp shard.pending

-- where the operations of an event put objects, a change keeps objects
changed_objects : (Q : Op → Type 0) → ((op : Op) → Q op → PutsObjectOp op) → (old new : Shard) → Changed Q old new → HasShardObjects old → HasShardObjects new
changed_objects Q puts old new (inl c) h =
    subst HasShardObjects (sym c.3) (h.0, All-push PutsObjectOp old.pending c.0 h.1 (puts c.0 c.1))
changed_objects Q puts old new (inr c) h =
    subst HasShardObjects (sym c.2) (publish_All PutsObjectOp (λ (row : Row). IsObject row.source) (λ number id source values o. o) old c.0 h.0 h.1)

-- all that a state has are objects
record Objects (state : State) : Type 0 where
  shards : All (λ (index : Index). All HasShardObjects index.shards) state.indexes
  views : All (λ (context : Context). All AreObjects context.view.shards) state.contexts

-- a view of objects
view_objects : (shards : List Shard) → All HasShardObjects shards → All AreObjects (map (λ (shard : Shard). shard.rows) shards)
view_objects shards h =
    All-map AreObjects (λ (shard : Shard). shard.rows) shards (All-weaker HasShardObjects (λ (shard : Shard). AreObjects shard.rows) (λ x o. o.0) shards h)

-- a move keeps views of objects
moves_views : (old new : State) → MovesContexts old new → Objects old → All (λ (context : Context). All AreObjects context.view.shards) new.contexts
moves_views old new (inl m) h =
    subst (All (λ (context : Context). All AreObjects context.view.shards)) (sym m.contexts)
    (kept_views (λ (view : View). All AreObjects view.shards) m.to m.keeps old.contexts h.views)
moves_views old new (inr m) h =
    let was : All HasShardObjects m.index.shards = find_All (λ (index : Index). All HasShardObjects index.shards) (λ (index : Index). bytes_eq index.name m.name) old.indexes m.index h.shards m.there in
    subst (All (λ (context : Context). All AreObjects context.view.shards)) (sym m.contexts)
    (All-push (λ (context : Context). All AreObjects context.view.shards) old.contexts (pit old.next (view_of m.index) m.expiry) h.views (view_objects m.index.shards was))

-- the operation of a put has the put's source
put_op_object : (id source : List ℕ) (r : Result (List Value) DocFault) (op : Op) → put_op id source r ≡ Ok op → IsObject source → PutsObjectOp op
put_op_object id source (Ok values) op e o = let same : PutOp id source values ≡ op = cc in subst PutsObjectOp same o
put_op_object id source (Err fault) op e o = absurd (cc)

-- an event that puts an object has such operations
event_puts : (event : Event) → PutsObject event → (op : Op) → IsOpOf event op → PutsObjectOp op
event_puts (Write index id (Put doc)) o op of = put_op_object id doc.source (fit of.0 doc.members) op of.1 o
event_puts (Write index id Remove) o op of = let same : RemoveOp id ≡ op = cc (of.1) in subst PutsObjectOp same tt
event_puts (Create index shards mapping) o op of = absurd of.1
event_puts (Seal index) o op of = absurd of.1
event_puts (Publish index shard upto) o op of = absurd of.1
event_puts (OpenPit index keep) o op of = absurd of.1
event_puts (Search target request) o op of = absurd of.1
event_puts (Close which) o op of = absurd of.1
event_puts Quiet o op of = absurd of.1

-- an empty shard has nothing but objects
empty_objects : HasShardObjects empty_shard
empty_objects = (All-nil (λ (row : Row). IsObject row.source), All-nil PutsObjectOp)

-- a step keeps objects
step_objects : (state : State) (entry : Entry) → PutsObject entry.event → Objects state → Objects (step state entry).0
step_objects state entry o h =
    let m = step_moves state entry in
    let new : State = (step state entry).0 in
    record {
      shards = moves_shards entry.event HasShardObjects HasShardObjects (λ shard has. has) (changed_objects (IsOpOf entry.event) (event_puts entry.event o)) empty_objects state.indexes new.indexes m.indexes h.shards;
      views = moves_views state new m.contexts h;
    }

-- a run keeps objects
run_objects : (history : History) (state : State) → All (λ (entry : Entry). PutsObject entry.event) history → Objects state → Objects (run state history)
run_objects [] state os h = h
run_objects (entry ∷ history) state os h =
    run_objects history (step state entry).0 (All-tail (λ (entry : Entry). PutsObject entry.event) entry history os)
    (step_objects state entry (All-head (λ (entry : Entry). PutsObject entry.event) entry history os) h)

-- the first state has nothing but objects
start_objects : (limits : Limits) → Objects (start limits)
start_objects limits =
    record {
      shards = All-cons (λ (index : Index). All HasShardObjects index.shards) (made docs 1 []) []
          (All-cons HasShardObjects empty_shard [] empty_objects (All-nil HasShardObjects))
          (All-nil (λ (index : Index). All HasShardObjects index.shards));
      views = All-nil (λ (context : Context). All AreObjects context.view.shards);
    }

-- where each put of the history is an object, so is all that the state has
pub state_objects : (limits : Limits) (history : History) → All (λ (entry : Entry). PutsObject entry.event) history → HasObjects (state_of limits history)
state_objects limits history os =
    let state = state_of limits history in
    let h = run_objects history (start limits) os (start_objects limits) in
    record {
      rows = All-weaker (λ (index : Index). All HasShardObjects index.shards) (λ (index : Index). All (λ (shard : Shard). AreObjects shard.rows) index.shards)
          (λ index a. All-weaker HasShardObjects (λ (shard : Shard). AreObjects shard.rows) (λ shard o. o.0) index.shards a) state.indexes h.shards;
      pending = All-weaker (λ (index : Index). All HasShardObjects index.shards) (λ (index : Index). All (λ (shard : Shard). All PutsObjectOp shard.pending) index.shards)
          (λ index a. All-weaker HasShardObjects (λ (shard : Shard). All PutsObjectOp shard.pending) (λ shard o. o.1) index.shards a) state.indexes h.shards;
      views = h.views;
    }
