-- The one event of a request may be asked.
use Rattle.std.proofs.Common.{subst}
use Rattle.es_rest.specs.declared.work.Work.{Work}
use Rattle.es_rest.specs.Led.{IsWork}
use Rattle.es_rest.proofs.converse.converse.Goals as goal

pub ask_one-requires : goal.ask_one-requires
ask_one-requires g c =
    let s = g.V.Service in
    let work = subst (λ (it : Work). IsWork c.args.ask it) c.in-One.is c.in_ok-event.ensures in
    work.1 (s.limits c.args.service.now) (s.front c.args.service.now)
