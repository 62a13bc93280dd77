-- Whether the id stands after the operations so far.
use Rattle.std.proofs.Common.{◌≡◌, ℕ, take}
use Rattle.list_machine.specs.Rows.{apply_all, has_id}
use Rattle.list_machine.proofs.steps.writing.will_stand.Given as goal

abbrev pub invariant-loop-op : goal.invariant-loop-op
invariant-loop-op l = (base : ℕ) → l.stands ≡ has_id l.id (apply_all l.rows base (take l.op-index l.pending))
