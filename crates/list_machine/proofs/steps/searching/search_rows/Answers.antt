use Rattle.std.proofs.Common.{List, ap, map, ◌∙◌}
use Rattle.std.proofs.lemmas.Result.{IfOk-weaker}
use Rattle.es_types.specs.declared.row.Row.{Row}
use Rattle.list_machine.specs.declared.page.view.ShardRef.{ShardRef}
use Rattle.list_machine.specs.Step.{search_reply}
use Rattle.list_machine.specs.Seen.Stores.{view_over}
use Rattle.list_machine.proofs.steps.searching.search_rows.Goals as goal

pub returns : goal.returns
returns c =
    let rows = ap (map (λ (shard : ShardRef). shard.rows.now)) c.deref.ensures.value ∙ c.in_ok-shards.ensures.rows in
    IfOk-weaker c.search_view.result _ _
    (λ reply is. is ∙ ap (λ (lists : List (List Row)). search_reply (view_over c.args.index.now c.args.mapping.now lists) c.args.request.now) rows)
    c.search_view.ensures
