use Rattle.std.proofs.Common.{rules}
use Rattle.std.specs.Arc.{arc_value}
use Rattle.reader_gate.proofs.Keeps.{opens}
use Rattle.reader_gate.proofs.owner.open.Goals as goal

pub new-requires : goal.new-requires
new-requires g c = rw (c.push_reserved.ensures.items, c.in_ok-slots.ensures.items) (opens arc_value c.of-about.result.value c.args.body (search rules))
