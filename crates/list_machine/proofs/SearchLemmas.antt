-- A search of an index as it is now.
use Rattle.std.proofs.Common.{◌≡◌, ℕ, ◌≤◌, List, length, map, sym, ap, subst, ◌∙◌, arith}
use Rattle.std.specs.List.{All}
use Rattle.std.proofs.lemmas.List.{length-map}
use Rattle.std.proofs.lemmas.List.Elements.{All-map, All-weaker}
use Rattle.std.proofs.lemmas.Simd.{map-map}
use Rattle.es_types.specs.declared.row.Row.{Row}
use Rattle.list_machine.specs.declared.event.Reply.{Reply}
use Rattle.list_machine.specs.declared.page.request.SearchRequest.{SearchRequest}
use Rattle.list_machine.specs.declared.store.IndexStore.{IndexStore}
use Rattle.list_machine.specs.declared.store.ShardStore.{ShardStore}
use Rattle.list_machine.specs.Rows.{Shard}
use Rattle.list_machine.specs.State.{IsSoundShard, State, index_of}
use Rattle.list_machine.specs.Step.{search_index, search_reply}
use Rattle.list_machine.specs.Seen.Stores.{IsCountedIndex, IsSmall, index_seen, indexes_seen, shard_seen, shards_seen, view_over}
use Rattle.list_machine.proofs.IndexLemmas.{IsFound}
use Rattle.list_machine.proofs.StoreLemmas.{All-from_map}

-- the rows of its shards
abbrev lists_of : IndexStore → List (List Row)
lists_of store = map (λ (shard : ShardStore). shard.rows.items) store.shards.items

-- a search can count them
pub small_rows : (store : IndexStore) (n : ℕ) (lists : List (List Row)) → lists ≡ lists_of store → IsCountedIndex n (index_seen store) → All IsSoundShard (shards_seen store.shards.items)
    → IsSmall (view_over store.name store.mapping lists)
small_rows store n lists is counted sound =
    let few : All (λ (shard : ShardStore). length shard.rows.items ≤ 2147483647) store.shards.items =
    All-weaker (λ (shard : ShardStore). IsSoundShard (shard_seen shard)) (λ (shard : ShardStore). length shard.rows.items ≤ 2147483647) (λ shard s. omega (arith, s.few)) store.shards.items
    (All-from_map IsSoundShard shard_seen store.shards.items sound) in
    record {
      few = omega (arith, counted.few, ap length is, length-map store.shards.items (λ (shard : ShardStore). shard.rows.items), length-map store.shards.items shard_seen);
      rows = subst (All (λ (rows : List Row). length rows ≤ 2147483647)) (sym is) (All-map (λ (rows : List Row). length rows ≤ 2147483647) (λ (shard : ShardStore). shard.rows.items) store.shards.items few);
    }

-- a search of the found index is one of the view of these rows
pub search_is : {name : List ℕ} {stores : List IndexStore} {at : ℕ} {store : IndexStore} → IsFound index_seen name stores at store
    → (lists : List (List Row)) → lists ≡ lists_of store → (request : SearchRequest) (reply : Reply) → reply ≡ search_reply (view_over store.name store.mapping lists) request
    → (state : State) → search_index state request (index_of name (indexes_seen stores)) ≡ (state, reply)
search_is {name} {stores} {at} {store} found lists same request reply is state =
    let replied : Reply → State × Reply = λ it. (state, it) in
    let viewed : List (List Row) → State × Reply = λ them. (state, search_reply (view_over store.name store.mapping them) request) in
    ap (λ it. search_index state request it) found.there
    ∙ ap viewed (map-map (λ (shard : Shard). shard.rows) shard_seen store.shards.items ∙ sym same)
    ∙ ap replied (sym is)
