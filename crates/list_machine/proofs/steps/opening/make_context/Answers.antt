use Rattle.std.proofs.Common.{◌≡◌, ℕ, IfOk, List, ap, ap₂, subst, sym, ◌∙◌, map}
use Rattle.std.proofs.lemmas.Simd.{map-map}
use Rattle.es_types.specs.declared.mapping.Field.{Field}
use Rattle.es_types.specs.declared.row.Row.{Row}
use Rattle.list_machine.specs.declared.store.ShardStore.{ShardStore}
use Rattle.list_machine.specs.Rows.{Shard}
use Rattle.list_machine.specs.State.{Context, pit}
use Rattle.list_machine.specs.Seen.Stores.{context_seen, shard_seen, view_over}
use Rattle.list_machine.proofs.StoreLemmas.{rows_in}
use Rattle.list_machine.proofs.steps.opening.make_context.Goals as goal

pub returns : goal.returns
returns c =
    let index = c.args.index.now in
    let context : List ℕ → List Field → List (List Row) → Context =
    λ name mapping shards. pit c.args.number (view_over name mapping shards) c.args.expiry in
    let name : c.name.inside.0 ≡ index.name = c.name.view_is ∙ c.in_ok-name.ensures in
    let lists : map rows_in c.in_ok-shards.shards.items ≡ map (λ (shard : Shard). shard.rows) (map shard_seen index.shards.items) =
    c.in_ok-shards.ensures
    ∙ ap (map (λ (shard : ShardStore). shard.rows.items)) c.deref.ensures.value
    ∙ sym (map-map (λ (shard : Shard). shard.rows) shard_seen index.shards.items) in
    subst (λ (it : Context). IfOk c.make.result (λ made. context_seen made ≡ it))
    (ap₂ (λ name mapping. context name mapping (map rows_in c.in_ok-shards.shards.items)) c.in_ok-name.ensures c.in_ok-mapping.ensures
    ∙ ap (context index.name index.mapping) lists)
    c.make.ensures
