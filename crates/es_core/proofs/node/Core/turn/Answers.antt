use Rattle.std.proofs.Common.{ℕ, refl, subst}
use Rattle.es_core.specs.Plans.{HandsOut, turned_reply}
use Rattle.es_core.proofs.Lending.{hands_lends}
use Rattle.es_core.proofs.Planned.{wanted_at}
use Rattle.es_core.proofs.StepLemmas.{turn_stands}
use Rattle.es_core.proofs.node.Core.turn.Goals as goal

pub returns-clause-turns : goal.returns-clause-turns
returns-clause-turns c =
    let facts = c.sound_states.ensures in
    let core = c.args.self.now in
    turn_stands (record { limits_are = facts.limits; counted = facts.counted })
    core c.happen.new.self _ c.args.event.now c.args.moment c.later-later.result (turned_reply c.in_ok-turned.turned) c.later-later.ensures
    c.in_ok-turned.ensures.steps
    (hands_lends c.args.event.now c.later-later.result core.catalog core.book.contexts c.happen.new.self.book.contexts c.in_ok-turned.turned c.in_ok-turned.ensures.hands_out)
    (record { moment_is = refl; limits_are = refl; next = refl; indexes = refl; book = refl }) c.requires.object c.requires.bounded

pub returns-clause-hands_out : goal.returns-clause-hands_out
returns-clause-hands_out c =
    let core = c.args.self.now in
    subst (λ (at : ℕ). HandsOut c.args.event.now at core.catalog core.book.contexts c.happen.new.self.book.contexts c.in_ok-turned.turned) c.later-later.ensures
    c.in_ok-turned.ensures.hands_out

pub returns-in_err-turned-clause-some : goal.returns-in_err-turned-clause-some
returns-in_err-turned-clause-some c =
    wanted_at c.args.event.now c.later-later.result _ c.args.self.now.book.contexts c.later-later.ensures c.in_err-turned.ensures.some c.from_residual.result
