use Rattle.reply_json.proofs.Printed.{hits_step}
use Rattle.reply_json.proofs.found.push_hits.Goals as goal

pub loop-i-preserved : goal.loop-i-preserved
loop-i-preserved c = hits_step c.args.hits.now c.loop-i.i _ _ _ _ c.loop-i-test.true c.index-hits-i.is c.loop-i.invariant c.in_ok-push_hit.ensures
