use Rattle.std.proofs.Common.{ap, ◌∙◌}
use Rattle.list_machine.specs.State.{State}
use Rattle.list_machine.specs.Step.{happen}
use Rattle.list_machine.specs.Seen.Stores.{state_seen}
use Rattle.list_machine.proofs.machine.reply_to.Goals as goal

pub returns-in-Close-clause-ok : goal.returns-in-Close-clause-ok
returns-in-Close-clause-ok c =
    let seen : State = record (state_seen c.args.store.now) { moment = c.args.moment } in
    ap (happen seen) c.in-Close.is ∙ c.close.ensures seen
