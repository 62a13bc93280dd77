-- What operations make of the rows of a shard.
use Rattle.std.proofs.Common.{◌≡◌, ◌≢◌, ℕ, ◌+◌, ◌-◌, ◌<◌, ◌≤◌, true, false, not, leb, List, [], ◌∷◌, ◌++◌, length, take, drop, All, AllPairs, bytes_eq, refl, subst, arith, length-append, length-take, length-drop}
use Rattle.std.proofs.lemmas.Bool.{both_ways, not-true, leb-false, cond_both}
use Rattle.std.proofs.lemmas.Slice.Eq.{bytes_eq-Decides}
use Rattle.std.proofs.lemmas.List.Elements.{All-filter, All-push, All-weaker, All-head, All-tail, All-take, All-drop, filter_passes}
use Rattle.std.proofs.lemmas.List.Quantifiers.{all_pairs_push}
use Rattle.std.proofs.lemmas.List.Kept.{AllPairs-filter}
use Rattle.std.proofs.lemmas.List.Filters.{length-filter_both}
use Rattle.es_types.specs.declared.row.Row.{Row}
use Rattle.es_types.specs.declared.row.Op.{Op}
use Rattle.es_types.specs.declared.row.Op.TheVariants.{Put, Remove}
use Rattle.es_types.specs.declared.row.Value.{Value}
use Rattle.list_machine.specs.Rows.{Shard, without, apply, apply_all, last_number, publish}
use Rattle.list_machine.specs.State.{IsSoundShard}
use Rattle.list_machine.specs.Step.{append_op, is_full}

-- the test that a filter keeps tells names apart
other_name : (a b : List ℕ) → not (bytes_eq a b) ≡ true → a ≢ b
other_name a b h e = both_ways (bytes_eq a b) (not-true (bytes_eq a b) h) ((bytes_eq-Decides a b).1 e)

-- a filter keeps no more than there is
length-without : (id : List ℕ) (rows : List Row) → length (without id rows) ≤ length rows
length-without id rows =
    omega (arith, length-filter_both (λ (row : Row). not (bytes_eq row.id id)) (λ (row : Row). not (not (bytes_eq row.id id))) (λ _. refl) rows)

-- rows whose ids differ, in the order of their numbers, none above base
pub record SoundRows (rows : List Row) (base : ℕ) : Type 0 where
  pub ids_differ : AllPairs (λ (a b : Row). a.id ≢ b.id) rows
  pub rising : AllPairs (λ (a b : Row). a.seq < b.seq) rows
  pub applied : All (λ (row : Row). row.seq ≤ base) rows

-- rows are sound without an id too
without_sound : (id : List ℕ) (rows : List Row) (base : ℕ) → SoundRows rows base → SoundRows (without id rows) (base + 1)
without_sound id rows base h =
    record {
      ids_differ = AllPairs-filter (λ (a b : Row). a.id ≢ b.id) (λ (row : Row). not (bytes_eq row.id id)) rows h.ids_differ;
      rising = AllPairs-filter (λ (a b : Row). a.seq < b.seq) (λ (row : Row). not (bytes_eq row.id id)) rows h.rising;
      applied = All-filter (λ (row : Row). not (bytes_eq row.id id)) (λ (row : Row). row.seq ≤ base + 1) rows (All-weaker (λ (row : Row). row.seq ≤ base) (λ (row : Row). row.seq ≤ base + 1) (λ x l. omega arith) rows h.applied);
    }

-- a row of a new id and the next number at the end
push_sound : (rows : List Row) (row : Row) (base : ℕ) → row.seq ≡ base + 1 → All (λ (old : Row). old.id ≢ row.id) rows → All (λ (old : Row). old.seq ≤ base) rows → SoundRows rows (base + 1) → SoundRows (rows ++ row ∷ []) (base + 1)
push_sound rows row base e others below h =
    record {
      ids_differ = all_pairs_push (λ (a b : Row). a.id ≢ b.id) rows row h.ids_differ others;
      rising = all_pairs_push (λ (a b : Row). a.seq < b.seq) rows row h.rising (λ k d l. let b = below k d l in omega (arith, b, e));
      applied = All-push (λ (old : Row). old.seq ≤ base + 1) rows row h.applied (omega arith);
    }

-- one operation keeps rows sound
apply_sound : (op : Op) (rows : List Row) (base : ℕ) → SoundRows rows base → SoundRows (apply rows (base + 1) op) (base + 1)
apply_sound (Put id source values) rows base h =
    push_sound (without id rows) (record { seq = base + 1; id = id; source = source; values = values }) base refl
    (λ k d l. other_name _ _ (filter_passes (λ (row : Row). not (bytes_eq row.id id)) rows k d l))
    (All-filter (λ (row : Row). not (bytes_eq row.id id)) (λ (row : Row). row.seq ≤ base) rows h.applied)
    (without_sound id rows base h)
apply_sound (Remove id) rows base h = without_sound id rows base h

-- one operation adds at most one row
length-apply : (op : Op) (rows : List Row) (number : ℕ) → length (apply rows number op) ≤ length rows + 1
length-apply (Put id source values) rows number =
    omega (arith, length-append (without id rows) (record { seq = number; id = id; source = source; values = values } ∷ []), length-without id rows)
length-apply (Remove id) rows number = omega (arith, length-without id rows)

-- operations keep rows sound
pub apply_all_sound : (ops : List Op) (rows : List Row) (base : ℕ) → SoundRows rows base → SoundRows (apply_all rows base ops) (base + length ops)
apply_all_sound [] rows base h = let e : base ≡ base + 0 = omega arith in subst (SoundRows rows) e h
apply_all_sound (op ∷ ops) rows base h =
    let e : base + 1 + length ops ≡ base + length (op ∷ ops) = omega arith in
    subst (SoundRows (apply_all rows base (op ∷ ops))) e (apply_all_sound ops (apply rows (base + 1) op) (base + 1) (apply_sound op rows base h))

-- operations add at most one row each
pub length-apply_all : (ops : List Op) (rows : List Row) (base : ℕ) → length (apply_all rows base ops) ≤ length rows + length ops
length-apply_all [] rows base = omega arith
length-apply_all (op ∷ ops) rows base =
    omega (arith, length-apply_all ops (apply rows (base + 1) op) (base + 1), length-apply op rows (base + 1))

-- what holds of each operation holds of the rows that it makes
abbrev pub Makes : (Op → Type 0) → (Row → Type 0) → Type 0
Makes O P = (number : ℕ) (id source : List ℕ) (values : List Value) → O (Put id source values) → P (record { seq = number; id = id; source = source; values = values })

-- an operation keeps what holds of all rows
apply_All : (O : Op → Type 0) (P : Row → Type 0) → Makes O P → (op : Op) (rows : List Row) (number : ℕ) → O op → All P rows → All P (apply rows number op)
apply_All O P makes (Put id source values) rows number o h =
    All-push P (without id rows) (record { seq = number; id = id; source = source; values = values })
    (All-filter (λ (row : Row). not (bytes_eq row.id id)) P rows h) (makes number id source values o)
apply_All O P makes (Remove id) rows number o h = All-filter (λ (row : Row). not (bytes_eq row.id id)) P rows h

-- operations keep what holds of all rows
apply_all_All : (O : Op → Type 0) (P : Row → Type 0) → Makes O P → (ops : List Op) (rows : List Row) (base : ℕ) → All O ops → All P rows → All P (apply_all rows base ops)
apply_all_All O P makes [] rows base os h = h
apply_all_All O P makes (op ∷ ops) rows base os h =
    apply_all_All O P makes ops (apply rows (base + 1) op) (base + 1) (All-tail O op ops os) (apply_All O P makes op rows (base + 1) (All-head O op ops os) h)

-- the shard after the operations up to a number that was not reached before
abbrev pub published : Shard → ℕ → Shard
published shard upto = record {
  base = upto;
  rows = apply_all shard.rows shard.base (take (upto - shard.base) shard.pending);
  pending = drop (upto - shard.base) shard.pending;
}

-- what holds of the shard and of the published one
pub publish_case : (P : Shard → Type 0) (shard : Shard) (upto : ℕ) → P shard → (shard.base < upto → P (published shard upto)) → P (publish shard upto)
publish_case P shard upto h next =
    cond_both (leb upto shard.base) shard (published shard upto) P (λ _. h) (λ e. next (leb-false upto shard.base e))

-- a publish keeps a shard sound
pub publish_sound : (shard : Shard) (upto : ℕ) → upto ≤ last_number shard → IsSoundShard shard → IsSoundShard (publish shard upto)
publish_sound shard upto l h = publish_case IsSoundShard shard upto h next
  where
    next : shard.base < upto → IsSoundShard (published shard upto)
    next b =
        let ops = take (upto - shard.base) shard.pending in
        let n : length ops ≡ upto - shard.base = omega (arith, length-take (upto - shard.base) shard.pending) in
        let e : shard.base + length ops ≡ upto = omega arith in
        let rows = apply_all_sound ops shard.rows shard.base (record { ids_differ = h.ids_differ; rising = h.rising; applied = h.applied }) in
        let most : length (apply_all shard.rows shard.base ops) ≤ length shard.rows + length ops = length-apply_all ops shard.rows shard.base in
        let left : length (drop (upto - shard.base) shard.pending) ≡ length shard.pending - (upto - shard.base) = length-drop (upto - shard.base) shard.pending in
        let sound : SoundRows (apply_all shard.rows shard.base ops) upto = subst (SoundRows (apply_all shard.rows shard.base ops)) e rows in
        record {
          ids_differ = sound.ids_differ;
          rising = sound.rising;
          applied = sound.applied;
          few = omega (arith, h.few);
        }

-- a publish keeps what holds of all rows and of all waiting operations
pub publish_All : (O : Op → Type 0) (P : Row → Type 0) → Makes O P → (shard : Shard) (upto : ℕ) → All P shard.rows → All O shard.pending → All P (publish shard upto).rows × All O (publish shard upto).pending
publish_All O P makes shard upto rows pending =
    publish_case (λ s. All P s.rows × All O s.pending) shard upto (rows, pending) (λ _. (
      apply_all_All O P makes (take (upto - shard.base) shard.pending) shard.rows shard.base (All-take O (upto - shard.base) shard.pending pending) rows,
      All-drop O (upto - shard.base) shard.pending pending,
    ))

-- one more waiting operation keeps a shard sound that is not full
pub append_sound : (shard : Shard) (op : Op) → is_full shard ≡ false → IsSoundShard shard → IsSoundShard (append_op shard op)
append_sound shard op free h =
    let room = leb-false 2147483647 (length shard.rows + length shard.pending) free in
    record { ids_differ = h.ids_differ; rising = h.rising; applied = h.applied; few = omega (arith, room, length-append shard.pending (op ∷ [])) }
