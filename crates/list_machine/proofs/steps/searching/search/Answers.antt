use Rattle.std.proofs.Common.{ap, ◌∙◌}
use Rattle.std.proofs.lemmas.Result.{IfOk-weaker}
use Rattle.list_machine.specs.State.{State}
use Rattle.list_machine.specs.Step.{search}
use Rattle.list_machine.specs.Seen.Stores.{state_seen}
use Rattle.list_machine.proofs.steps.searching.search.Goals as goal

pub returns-in-Pit-clause-ok : goal.returns-in-Pit-clause-ok
returns-in-Pit-clause-ok c =
    let seen : State = record (state_seen c.args.store.now) { moment = c.args.moment } in
    IfOk-weaker c.search_pit.result _ _
    (λ reply is. ap (search seen c.args.request.now) c.in-Pit.is ∙ is seen)
    c.search_pit.ensures.ok
