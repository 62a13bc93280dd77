-- What is counted after one entry more.
use Rattle.std.proofs.Common.{◌≡◌, ℕ, ◌+◌, ◌-◌, ◌≤◌, Some, inl, inr, List, [], ◌∷◌, length, slice_get, slice_set, All, bytes_eq, ap, sym, subst, arith, length-set}
use Rattle.std.proofs.lemmas.List.{length-append, length-drop, length-map, length-replicate}
use Rattle.std.proofs.lemmas.List.Elements.{All-cons, All-head, All-tail, All-map, All-nil, All-push, All-replicate, All-set, All-weaker}
use Rattle.es_types.specs.declared.limits.TheConstants.{INDEX_SHARDS}
use Rattle.es_types.specs.declared.mapping.Field.{Field}
use Rattle.es_types.specs.declared.row.Op.{Op}
use Rattle.es_types.specs.declared.row.Row.{Row}
use Rattle.list_machine.specs.declared.event.Entry.{Entry}
use Rattle.list_machine.specs.declared.event.Event.{Event}
use Rattle.list_machine.specs.declared.event.Limits.{Limits}
use Rattle.list_machine.specs.Rows.{Shard, last_number, publish}
use Rattle.list_machine.specs.Run.{IsBounded, History, run, state_of}
use Rattle.list_machine.specs.State.{Context, Index, IsSoundShard, State, docs, empty_shard, pit, start, view_of}
use Rattle.list_machine.specs.Step.{step}
use Rattle.list_machine.specs.Seen.Stores.{IsCounted, IsCountedIndex, IsSmall}
use Rattle.list_machine.proofs.ShardLemmas.{publish_case}
use Rattle.list_machine.proofs.ContextMoves.{kept_views}
use Rattle.list_machine.proofs.Moves.{Changed, IsOpAt, MovesContexts, find_All, made, moves_indexes, slice_get_All, step_moves}
use Rattle.list_machine.proofs.Sound.{start_sound, step_sound}

-- no operation of the shard has a number above n
abbrev IsNumbered : ℕ → Shard → Type 0
IsNumbered n shard = last_number shard ≤ n

-- what was applied and what waits are as many as before
publish_numbered : (n : ℕ) (shard : Shard) (upto : ℕ) → upto ≤ last_number shard → IsNumbered n shard → IsNumbered n (publish shard upto)
publish_numbered n shard upto within is =
    publish_case (IsNumbered n) shard upto is (λ past. omega (arith, length-drop (upto - shard.base) shard.pending))

-- a changed shard has at most one operation more
changed_numbered : (n : ℕ) (Q : Op → Type 0) (old new : Shard) → Changed Q old new → IsNumbered n old → IsNumbered (n + 1) new
changed_numbered n Q old new (inl c) is = subst (IsNumbered (n + 1)) (sym c.3) (omega (arith, length-append old.pending (c.0 ∷ [])))
changed_numbered n Q old new (inr c) is = subst (IsNumbered (n + 1)) (sym c.2) (omega (arith, publish_numbered n old c.0 c.1 is))

-- a changed shard of an index counts one entry more
changed_index : (n : ℕ) (event : Event) (index : Index) (at : ℕ) (shard changed : Shard) → slice_get index.shards at ≡ Some shard → Changed (IsOpAt event index.mapping at (length index.shards)) shard changed → IsCountedIndex n index → IsCountedIndex (n + 1) (record index { shards = slice_set index.shards at changed })
changed_index n event index at shard changed has changes h =
    record {
      some = omega (arith, h.some, length-set index.shards at changed);
      few = omega (arith, h.few, length-set index.shards at changed);
      numbers = All-set (IsNumbered (n + 1)) index.shards at changed
          (changed_numbered n (IsOpAt event index.mapping at (length index.shards)) shard changed changes (slice_get_All (IsNumbered n) index.shards at shard h.numbers has))
          (All-weaker (IsNumbered n) (IsNumbered (n + 1)) (λ it less. omega arith) index.shards h.numbers);
    }

-- a new index counts, where it has a shard
made_index : (n : ℕ) (name : List ℕ) (shards : ℕ) (mapping : List Field) → 1 ≤ shards → shards ≤ INDEX_SHARDS → IsCountedIndex n (made name shards mapping)
made_index n name shards mapping some few =
    record {
      some = omega (arith, length-replicate shards empty_shard);
      few = omega (arith, length-replicate shards empty_shard);
      numbers = All-replicate (IsNumbered n) shards empty_shard (omega arith);
    }

-- the view of an index that counts is small
view_small : (n : ℕ) (index : Index) → IsCountedIndex n index → All IsSoundShard index.shards → IsSmall (view_of index)
view_small n index h sound =
    record {
      few = omega (arith, h.few, length-map index.shards (λ (shard : Shard). shard.rows));
      rows = All-map (λ (rows : List Row). length rows ≤ 2147483647) (λ (shard : Shard). shard.rows) index.shards
          (All-weaker IsSoundShard (λ (shard : Shard). length shard.rows ≤ 2147483647) (λ shard it. omega (arith, it.few)) index.shards sound);
    }

-- a move opens at most one context
moves_next : (old new : State) → MovesContexts old new → new.next ≤ old.next + 1
moves_next old new (inl m) = omega (arith, m.next)
moves_next old new (inr m) = omega (arith, m.next)

-- and at most one more is there
moves_many : (old new : State) → MovesContexts old new → length new.contexts ≤ length old.contexts + 1
moves_many old new (inl m) = omega (arith, ap length m.contexts, length-map old.contexts m.to)
moves_many old new (inr m) = omega (arith, ap length m.contexts, length-append old.contexts (pit old.next (view_of m.index) m.expiry ∷ []))

-- a move keeps views small
moves_small : (n : ℕ) (old new : State) → IsCounted n old → MovesContexts old new → All (λ (context : Context). IsSmall context.view) new.contexts
moves_small n old new h (inl m) =
    subst (All (λ (context : Context). IsSmall context.view)) (sym m.contexts) (kept_views IsSmall m.to m.keeps old.contexts h.views)
moves_small n old new h (inr m) =
    let counted = find_All (IsCountedIndex n) (λ (index : Index). bytes_eq index.name m.name) old.indexes m.index h.indexes m.there in
    let sound = find_All (λ (index : Index). All IsSoundShard index.shards) (λ (index : Index). bytes_eq index.name m.name) old.indexes m.index h.sound.shards m.there in
    subst (All (λ (context : Context). IsSmall context.view)) (sym m.contexts)
    (All-push (λ (context : Context). IsSmall context.view) old.contexts (pit old.next (view_of m.index) m.expiry) h.views (view_small n m.index counted sound))

-- a step counts one entry more
pub IsCounted-step : (n : ℕ) (state : State) (entry : Entry) → IsBounded entry.event → IsCounted n state → IsCounted (n + 1) (step state entry).0
IsCounted-step n state entry creates counted =
    let m = step_moves state entry in
    let new : State = (step state entry).0 in
    record {
      indexes = moves_indexes entry.event (IsCountedIndex n) (IsCountedIndex (n + 1))
          (λ index h. record { some = h.some; few = h.few; numbers = All-weaker (IsNumbered n) (IsNumbered (n + 1)) (λ it less. omega arith) index.shards h.numbers })
          (changed_index n entry.event)
          (λ name shards mapping is few. let bounded = subst IsBounded is creates in made_index (n + 1) name shards mapping bounded.0 bounded.1)
          state.indexes new.indexes m.indexes counted.indexes;
      next = omega (arith, counted.next, moves_next state new m.contexts);
      many = omega (arith, counted.many, moves_many state new m.contexts);
      views = moves_small n state new counted m.contexts;
      sound = step_sound state entry counted.sound;
    }

-- so does the first state, before any
pub IsCounted-start : (limits : Limits) → IsCounted 0 (start limits)
IsCounted-start limits =
    record {
      indexes = All-cons (IsCountedIndex 0) (made docs 1 []) [] (made_index 0 docs 1 [] (omega arith) (omega arith)) (All-nil (IsCountedIndex 0));
      next = omega arith;
      many = omega arith;
      views = All-nil (λ (context : Context). IsSmall context.view);
      sound = start_sound limits;
    }

-- a run counts as many as it has entries
IsCounted-run : (n : ℕ) (history : History) (state : State) → All (λ (entry : Entry). IsBounded entry.event) history → IsCounted n state → IsCounted (n + length history) (run state history)
IsCounted-run n [] state creates h = let same : n ≡ n + 0 = omega arith in subst (λ k. IsCounted k state) same h
IsCounted-run n (entry ∷ history) state creates h =
    let P : Entry → Type 0 = λ it. IsBounded it.event in
    let long : (n + 1) + length history ≡ n + length (entry ∷ history) = omega arith in
    subst (λ k. IsCounted k (run state (entry ∷ history))) long
    (IsCounted-run (n + 1) history (step state entry).0 (All-tail P entry history creates) (IsCounted-step n state entry (All-head P entry history creates) h))

-- what a history leads to is counted
pub state_counted : (limits : Limits) (history : History) → All (λ (entry : Entry). IsBounded entry.event) history → IsCounted (length history) (state_of limits history)
state_counted limits history creates =
    let same : 0 + length history ≡ length history = omega arith in
    subst (λ k. IsCounted k (state_of limits history)) same (IsCounted-run 0 history (start limits) creates (IsCounted-start limits))
