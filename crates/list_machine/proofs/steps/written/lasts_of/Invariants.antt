-- The ids so far are those of the operations from here on, and what is noted are these from the last to the first.
use Rattle.std.proofs.Common.{◌≡◌, ℕ, List, drop, reverse}
use Rattle.std.specs.BTreeSet.{contains_text}
use Rattle.list_machine.specs.Seen.Lasts.{are_last, is_written}
use Rattle.list_machine.proofs.steps.written.lasts_of.Given as goal

abbrev pub invariant-loop-i : goal.invariant-loop-i
invariant-loop-i l = record {
  ids : (id : List ℕ) → contains_text l.ids id ≡ is_written id (drop l.i l.ops);
  last : reverse l.last.items ≡ are_last (drop l.i l.ops);
}
