use Rattle.std.proofs.Common.{subst, sym}
use Rattle.list_machine.specs.State.{State}
use Rattle.list_machine.specs.Seen.Stores.{IsCounted}
use Rattle.list_machine.proofs.CountLemmas.{IsCounted-start}
use Rattle.list_machine.proofs.machine.Machine.make.Goals as goal

pub invariant_of-result : goal.invariant_of-result
invariant_of-result c =
    let Counted : State → Type 0 = IsCounted 0 in
    subst Counted (sym c.in_ok-first_store.ensures) (IsCounted-start c.args.limits)
