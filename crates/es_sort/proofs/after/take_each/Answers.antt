use Rattle.std.proofs.Common.{sym, ◌∙◌}
use Rattle.es_sort.proofs.Walk.{none_ends}
use Rattle.es_sort.proofs.after.take_each.Goals as goal

pub returns-in_default : goal.returns-in_default
returns-in_default c = sym (none_ends c.args.place c.args.keys.now c.loop-at.at c.index-keys-at.result c.loop-at-test.true c.index-keys-at.is c.args.mapping.now c.args.values.now c.in_default.ensures.lookup.3) ∙ c.loop-at.invariant.1
