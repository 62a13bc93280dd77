use Rattle.reply_json.proofs.Printed.{lines_step}
use Rattle.reply_json.proofs.bulk.push_lines.Goals as goal

pub loop-i-preserved : goal.loop-i-preserved
loop-i-preserved c = lines_step c.args.lines.now c.loop-i.i _ _ _ _ c.loop-i-test.true c.index-lines-i.is c.loop-i.invariant c.in_ok-push_line.ensures
