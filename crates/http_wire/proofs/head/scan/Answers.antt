use Rattle.std.proofs.Common.{sym, ap, ◌∙◌, arith}
use Rattle.std.proofs.lemmas.List.{take_rest}
use Rattle.http_wire.proofs.Ends.{scan_more, starts}
use Rattle.http_wire.proofs.head.scan.Goals as goal

pub loop-at-preserved : goal.loop-at-preserved
loop-at-preserved c = (
  omega arith,
  sym (scan_more c.args.bytes.now c.loop-at.at c.loop-at-test.true (ap starts (sym (take_rest c.args.bytes.now c.loop-at.at)) ∙ sym c.if-starts_with.ensures.value)) ∙ c.loop-at.invariant.1,
)
