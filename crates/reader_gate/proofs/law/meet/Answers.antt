use Rattle.std.proofs.Common.{rules, []}
use Rattle.std.specs.Arc.{arc_value}
use Rattle.reader_gate.specs.Steps.{opening}
use Rattle.reader_gate.proofs.Ends.{comes, joins, sees}
use Rattle.reader_gate.proofs.law.meet.Goals as goal

pub load_new_seat-fresh-requires : goal.load_new_seat-fresh-requires
load_new_seat-fresh-requires g c = (search rules, comes arc_value _ _ (opening c.args.gate.now.shared.key.value, []))

-- the moved seat is the other
pub join_seat-requires : goal.join_seat-requires
join_seat-requires g c =
    (search rules, search rules, search rules, search rules, joins arc_value _ _ _ c.args.ended.now.me.0 c.replace-moved.result.me.0 c.requires.last.0 (rw c.replace-moved.ensures.value c.requires.last.1))

pub load-requires : goal.load-requires
load-requires g c = (search rules, search rules, sees arc_value _ _ _ _)
