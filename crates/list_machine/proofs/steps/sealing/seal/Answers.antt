use Rattle.std.proofs.Common.{◌≤◌, ap, map, refl, sym, ◌∙◌}
use Rattle.std.proofs.lemmas.List.Elements.{All-same}
use Rattle.std.proofs.lemmas.Simd.{map-map}
use Rattle.list_machine.specs.declared.store.IndexStore.{IndexStore}
use Rattle.list_machine.specs.declared.store.ShardStore.{ShardStore}
use Rattle.list_machine.specs.Rows.{Shard, last_number}
use Rattle.list_machine.specs.Step.{seal}
use Rattle.list_machine.specs.Seen.Stores.{IsCountedIndex, index_seen, indexes_seen, most_entries, shard_seen}
use Rattle.list_machine.proofs.IndexLemmas.{found_at, holds_at, index_of-none, seal_moves}
use Rattle.list_machine.proofs.StoreLemmas.{All-from_map}
use Rattle.list_machine.proofs.steps.sealing.seal.Goals as goal

pub returns-in_default : goal.returns-in_default
returns-in_default c state =
    ap (λ found. seal (record state { indexes = indexes_seen c.args.indexes.now }) found)
    (index_of-none index_seen c.args.name.now c.args.indexes.now c.args.indexes.now c.place_of.result refl c.place_of.ensures c.in_default.is)

pub last_numbers-requires : goal.last_numbers-requires
last_numbers-requires c =
    let store = c.index-indexes-at.result in
    let found = found_at index_seen c.args.name.now c.args.indexes.now c.args.indexes.now c.in-Some.at store c.place_of.result
    refl c.place_of.ensures c.in-Some.is c.index-indexes-at.is in
    All-same (λ (shard : ShardStore). last_number (shard_seen shard) ≤ most_entries) c.deref.result.now store.shards.items (c.deref.ensures.value ∙ ap (λ (it : IndexStore). it.shards.items) (sym c.index-indexes-at.is))
    (All-from_map (λ (shard : Shard). last_number shard ≤ most_entries) shard_seen store.shards.items (holds_at found (IsCountedIndex most_entries) c.requires).numbers)

pub returns : goal.returns
returns c state =
    let store = c.index-indexes-at.result in
    let found = found_at index_seen c.args.name.now c.args.indexes.now c.args.indexes.now c.in-Some.at store c.place_of.result
    refl c.place_of.ensures c.in-Some.is c.index-indexes-at.is in
    seal_moves found c.of.result
    (c.of.ensures ∙ c.in_ok-numbers.ensures
    ∙ ap (map (λ (shard : ShardStore). last_number (shard_seen shard))) (c.deref.ensures.value ∙ ap (λ (it : IndexStore). it.shards.items) (sym c.index-indexes-at.is))
    ∙ sym (map-map last_number shard_seen store.shards.items))
    state
