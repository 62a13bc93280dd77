use Rattle.std.proofs.Common.{ap, map, ◌∙◌}
use Rattle.std.proofs.lemmas.Result.{IfOk-weaker}
use Rattle.list_machine.specs.declared.page.view.ShardRef.{ShardRef}
use Rattle.list_machine.specs.Views.{View, answer}
use Rattle.es_node.proofs.Viewed.{view_is}
use Rattle.es_node.proofs.search_exec.search.Goals as goal

pub returns : goal.returns
returns c =
    let rows = ap (map (λ (shard : ShardRef). shard.rows.now)) c.deref.ensures.value ∙ c.in_ok-shards.ensures.rows in
    IfOk-weaker c.answer.result _ _
    (λ it is. is ∙ ap (λ (view : View). answer view c.args.request.now c.args.skip) (view_is c.args.view.now _ _ _ c.index.ensures c.mapping.ensures rows))
    c.answer.ensures
