use Rattle.std.proofs.Common.{rules, ◌∷◌, sym, ap, ◌∙◌, Some, arith}
use Rattle.std.specs.Arc.{arc_value}
use Rattle.atomic_table.specs.Table.{rest}
use Rattle.reader_gate.proofs.Keeps.{leaves}
use Rattle.reader_gate.proofs.hold.leave.Goals as goal

pub fetch_sub-requires : goal.fetch_sub-requires
fetch_sub-requires g c = (cc, search rules, leaves arc_value _ _ _ _ c.requires.one.0 c.requires.one.1)

pub exchange-requires : goal.exchange-requires
exchange-requires g c =
    let t = c.fetch_sub.ensures.2.0 (omega arith) in
    let e = ap (λ m. m.1) t.1 in
    (cc, (Some t.0, e ∙ ap (λ l. (0, Some t.0) ∷ l) (sym (ap rest e))))
