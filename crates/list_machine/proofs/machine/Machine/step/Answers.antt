use Rattle.std.proofs.Common.{◌+◌, ap, subst}
use Rattle.list_machine.specs.State.{State}
use Rattle.list_machine.specs.Seen.Stores.{IsCounted, state_seen}
use Rattle.list_machine.proofs.CountLemmas.{IsCounted-step}
use Rattle.list_machine.proofs.machine.Machine.step.Goals as goal

pub invariant_of-self-2 : goal.invariant_of-self-2
invariant_of-self-2 c =
    let Counted : State → Type 0 = IsCounted (c.self.inside.entries + 1) in
    subst Counted (ap (λ pair. pair.0) c.in_ok-reply.ensures.ok) (IsCounted-step c.self.inside.entries (state_seen c.self.inside.store) c.args.entry.now c.requires.bounded c.self.invariant)
