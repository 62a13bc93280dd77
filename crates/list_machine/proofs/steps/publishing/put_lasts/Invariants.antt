-- What is left makes, after the rows so far, what all operations make of none after the first ones.
use Rattle.std.proofs.Common.{◌≡◌, ◌+◌, ◌<◌, ◌≤◌, ◌^◌, ◌++◌, [], drop, vec_capacity, vec_len}
use Rattle.list_machine.specs.Seen.Lasts.{are_last}
use Rattle.list_machine.specs.Rows.{apply_all}
use Rattle.list_machine.proofs.steps.publishing.put_lasts.Given as goal

abbrev pub invariant-loop-op : goal.invariant-loop-op
invariant-loop-op l = record {
  rows : l.rows.items ++ apply_all [] (l.base + l.at) l.op-iterator.rest.items ≡ l.initial.rows.items ++ apply_all [] l.base l.fn.ops.items;
  last : drop l.at l.last ≡ are_last l.op-iterator.rest.items;
  numbers : l.base + l.at + l.op-iterator.rest.len < 2 ^ 64;
  room : vec_len l.rows + l.op-iterator.rest.len ≤ vec_capacity l.rows;
}
