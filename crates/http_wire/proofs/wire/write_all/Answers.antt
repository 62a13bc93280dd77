use Rattle.std.proofs.Common.{◌∙◌, ap, length, arith}
use Rattle.std.proofs.lemmas.List.{length-drop, take_rest}
use Rattle.http_wire.proofs.Flow.{wrote_more}
use Rattle.http_wire.proofs.wire.write_all.Goals as goal

pub loop-at-preserved : goal.loop-at-preserved
loop-at-preserved g c =
    let rest = take_rest c.args.bytes.now c.loop-at.at in
    record {
      within = omega (arith, c.in-Ok.ensures.within, ap length rest, length-drop c.loop-at.at c.args.bytes.now, c.loop-at.invariant.within);
      wrote = wrote_more _ _ _ c.args.bytes.now _ c.loop-at.at c.in-Ok.count c.loop-at.invariant.wrote c.in-Ok.ensures.bytes rest;
      write_faults = c.in-Ok.ensures.uncounted ∙ c.loop-at.invariant.write_faults;
      left = c.write.ensures.left ∙ c.loop-at.invariant.left;
      read_faults = c.write.ensures.read_faults ∙ c.loop-at.invariant.read_faults;
      held = c.write.ensures.held ∙ c.loop-at.invariant.held;
    }
