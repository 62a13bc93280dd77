use Rattle.std.proofs.Common.{◌≡◌, All, List, ap, map, refl, ◌∙◌}
use Rattle.std.proofs.lemmas.Result.{IfOk-weaker}
use Rattle.es_types.specs.declared.row.Row.{Row}
use Rattle.list_machine.specs.declared.store.ShardStore.{ShardStore}
use Rattle.list_machine.specs.State.{Index, IsSoundShard}
use Rattle.list_machine.specs.Step.{search_index, search_reply}
use Rattle.list_machine.specs.Seen.Stores.{IsCountedIndex, index_seen, most_entries, view_over}
use Rattle.list_machine.proofs.IndexLemmas.{found_at, holds_at, index_of-none}
use Rattle.list_machine.proofs.SearchLemmas.{search_is, small_rows}
use Rattle.list_machine.proofs.steps.searching.search_index.Goals as goal

pub returns-in_default : goal.returns-in_default
returns-in_default c state =
    ap (λ found. search_index state c.args.request.now found)
    (index_of-none index_seen c.args.name.now c.args.indexes.now c.args.indexes.now c.place_of.result refl c.place_of.ensures c.in_default.is)

pub search_rows-requires-clause-small : goal.search_rows-requires-clause-small
search_rows-requires-clause-small c =
    let store = c.index-indexes-at.result in
    let found = found_at index_seen c.args.name.now c.args.indexes.now c.args.indexes.now c.in-Some.at store c.place_of.result
    refl c.place_of.ensures c.in-Some.is c.index-indexes-at.is in
    let rows_in : ShardStore → List Row = λ shard. shard.rows.items in
    let lists = map (λ rows. rows.now) c.deref-3.result.now in
    let same : lists ≡ map rows_in store.shards.items =
    ap (map (λ rows. rows.now)) c.deref-3.ensures.value ∙ c.in_ok-rows.ensures
    ∙ ap (map rows_in) c.deref.ensures.value in
    small_rows store most_entries lists same (holds_at found (IsCountedIndex most_entries) c.requires.counted) (holds_at found (λ (index : Index). All IsSoundShard index.shards) c.requires.sound)

pub returns : goal.returns
returns c =
    let store = c.index-indexes-at.result in
    let found = found_at index_seen c.args.name.now c.args.indexes.now c.args.indexes.now c.in-Some.at store c.place_of.result
    refl c.place_of.ensures c.in-Some.is c.index-indexes-at.is in
    let rows_in : ShardStore → List Row = λ shard. shard.rows.items in
    let lists = map (λ rows. rows.now) c.deref-3.result.now in
    let same : lists ≡ map rows_in store.shards.items =
    ap (map (λ rows. rows.now)) c.deref-3.ensures.value ∙ c.in_ok-rows.ensures
    ∙ ap (map rows_in) c.deref.ensures.value in
    IfOk-weaker c.search_rows.result (λ reply. reply ≡ search_reply (view_over store.name store.mapping lists) c.args.request.now) _
    (λ reply is. search_is found lists same c.args.request.now reply is) c.search_rows.ensures
