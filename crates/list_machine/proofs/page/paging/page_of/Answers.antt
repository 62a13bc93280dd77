use Rattle.std.proofs.Common.{◌∙◌}
use Rattle.std.proofs.lemmas.List.{take_rest}
use Rattle.std.proofs.lemmas.Result.{IfOk-weaker}
use Rattle.list_machine.specs.Seen.Stores.{view_at}
use Rattle.list_machine.proofs.PageLemmas.{page_is}
use Rattle.list_machine.proofs.page.paging.page_of.Goals as goal

pub returns : goal.returns
returns c =
    let view = view_at c.args.view.now in
    let request = c.args.request.now in
    IfOk-weaker c.make_hits.result _ _
    (λ hits is. is ∙ page_is view request c.args.left.now _ c.args.skip c.min-start.result c.min-end.result c.requires c.min-start.ensures (take_rest c.args.left.now c.min-start.result) c.min-end.ensures)
    c.make_hits.ensures
