use Rattle.std.proofs.Common.{rules, ◌<◌, sym, ap, ◌∙◌, arith}
use Rattle.std.specs.Arc.{arc_value}
use Rattle.reader_gate.proofs.Ends.{returns_slot}
use Rattle.reader_gate.proofs.law.no_second_end.Goals as goal

-- the slot of the other one comes back, so that its seat can be taken in
pub load-requires : goal.load-requires
load-requires g c =
    let mine = ap (λ h. h.reader) c.ended.view_is in
    let its = ap (λ h. h.reader) c.other.view_is in
    let last : 0 < c.other.inside.seat.me.0.lasts = omega arith in
    (its ∙ sym c.requires ∙ sym mine ∙ c.ended.invariant.0 ∙ ap (λ t. t.shared.table_id) (sym c.deref.ensures), search rules, returns_slot arc_value _ _ _ _ last c.other.invariant.5)
