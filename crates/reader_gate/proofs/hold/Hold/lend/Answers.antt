use Rattle.std.proofs.Common.{rules, ◌≡◌, ◌+◌, sym, ap, ◌∙◌}
use Rattle.std.specs.Arc.{arc_value}
use Rattle.reader_gate.specs.declared.gate.Role.TheVariants.{Owning}
use Rattle.reader_gate.proofs.Keeps.{lends, splits}
use Rattle.reader_gate.proofs.hold.Hold.lend.Goals as goal

-- the clone of the table is the table of the seat
pub fetch_add-requires : goal.fetch_add-requires
fetch_add-requires g c =
    let same = sym c.in_ok-gate.ensures ∙ sym c.deref.ensures in
    (c.args.self.now.seated ∙ ap (λ t. t.shared.table_id) same, search rules, lends arc_value _ _ _ _ c.requires.owner c.args.self.now.one.0 c.requires.few)

pub split_seat-seat-requires : goal.split_seat-seat-requires
split_seat-seat-requires g c =
    let same = sym c.in_ok-gate.ensures ∙ sym c.deref.ensures in
    let me = c.fetch_add.ensures.2 in
    let owns : c.fetch_add.new.seat.me.0.role ≡ Owning = ap (λ m. m.0.role) me ∙ c.requires.owner in
    let two : c.fetch_add.new.seat.me.0.holds ≡ 2 = ap (λ m. m.0.holds) me ∙ ap (λ n. n + 1) c.args.self.now.one.0 in
    (c.fetch_add.ensures.0 ∙ c.args.self.now.seated ∙ ap (λ t. t.shared.table_id) same, search rules, splits arc_value _ _ _ owns two)
