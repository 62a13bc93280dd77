use Rattle.std.proofs.Common.{ap, sym, ◌∙◌, arith}
use Rattle.list_machine.specs.Seen.Standing.{stands_after}
use Rattle.list_machine.proofs.RowLemmas.{has_id_more}
use Rattle.list_machine.proofs.steps.writing.will_stand.Goals as goal

pub loop-op-preserved : goal.loop-op-preserved
loop-op-preserved c base =
    c.stands_after-stands.ensures
    ∙ ap (stands_after c.op-item.result c.args.id.now) (c.loop-op.invariant base)
    ∙ sym (has_id_more c.args.rows.now base c.args.pending.now c.loop-op.op-index c.op-item.result c.args.id.now (omega arith) c.op-item.is)
