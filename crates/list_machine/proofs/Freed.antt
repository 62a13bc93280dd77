-- How many shards a closing frees.
use Rattle.std.proofs.Common.{◌≡◌, ℕ, ◌+◌, ◌*◌, ◌<◌, ◌≤◌, cond, List, [], ◌∷◌, length, take, filter, get_or, sum_by, All, refl, ap, ◌∙◌, arith}
use Rattle.std.proofs.lemmas.Bool.{cond_both}
use Rattle.std.proofs.lemmas.List.{length-map}
use Rattle.std.proofs.lemmas.List.Elements.{All-weaker}
use Rattle.std.proofs.lemmas.List.Sums.{sum_by-cons, sum_by-le, sum_by_more_le_part}
use Rattle.es_types.specs.declared.limits.TheConstants.{INDEX_SHARDS}
use Rattle.list_machine.specs.declared.context.ContextStore.{ContextStore}
use Rattle.list_machine.specs.declared.event.Which.{Which}
use Rattle.list_machine.specs.State.{Context}
use Rattle.list_machine.specs.Step.{freed, is_closing}
use Rattle.list_machine.specs.Seen.Stores.{IsSmall, context_seen, contexts_seen, view_seen}
use Rattle.list_machine.proofs.StoreLemmas.{All-from_map, rows_in}

-- how many shards those of the contexts have that are closing, term by term
abbrev pub freed_one : ℕ → Which → ContextStore → ℕ
freed_one moment which store = cond (is_closing moment which (context_seen store)) (length store.shards.items) 0

abbrev pub freed_in : ℕ → Which → List ContextStore → ℕ
freed_in moment which stores = sum_by (freed_one moment which) stores

-- it is what a closing frees
pub freed_is : (moment : ℕ) (which : Which) (stores : List ContextStore) → freed_in moment which stores ≡ freed moment which (contexts_seen stores)
freed_is moment which [] = refl
freed_is moment which (store ∷ stores) =
    let rest = freed_is moment which stores in
    let many : Context → ℕ = λ context. length context.view.shards in
    let kept = filter (is_closing moment which) (contexts_seen stores) in
    sum_by-cons (freed_one moment which) store stores
    ∙ cond_both (is_closing moment which (context_seen store)) (context_seen store ∷ kept) kept
    (λ (them : List Context). freed_one moment which store + freed_in moment which stores ≡ sum_by many them)
    (λ closing. rw closing (omega (arith, rest, sum_by-cons many (context_seen store) kept, length-map store.shards.items rows_in)))
    (λ stays. rw stays (omega (arith, rest)))

-- as their views are small, what is freed so far and the shards of one more are not too many
pub freed_few : (moment : ℕ) (which : Which) (stores : List ContextStore) (at : ℕ) (store : ContextStore) → at < length stores → store ≡ get_or stores at store
    → All (λ (context : Context). IsSmall context.view) (contexts_seen stores) → freed_in moment which (take at stores) + length store.shards.items ≤ length stores * INDEX_SHARDS
freed_few moment which stores at store within is small =
    let many : ContextStore → ℕ = λ it. length it.shards.items in
    let each : All (λ it. many it ≤ INDEX_SHARDS) stores =
    All-weaker (λ (it : ContextStore). IsSmall (view_seen it)) (λ it. many it ≤ INDEX_SHARDS) (λ it h. omega (arith, h.few, length-map it.shards.items rows_in)) stores
    (All-from_map (λ (context : Context). IsSmall context.view) context_seen stores small) in
    let part = sum_by_more_le_part (freed_one moment which) many stores at store within (λ it. cond_both (is_closing moment which (context_seen it)) (many it) 0 (λ n. n ≤ many it) (λ _. omega arith) (λ _. omega arith)) in
    omega (arith, part, ap many is, sum_by-le many INDEX_SHARDS stores each)
