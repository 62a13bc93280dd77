use Rattle.reply_json.proofs.Printed.{values_step}
use Rattle.reply_json.proofs.found.push_values.Goals as goal

pub loop-i-preserved : goal.loop-i-preserved
loop-i-preserved c = values_step c.args.values.now c.loop-i.i _ _ _ _ c.loop-i-test.true c.index-values-i.is c.loop-i.invariant c.in_ok-push_value.ensures
