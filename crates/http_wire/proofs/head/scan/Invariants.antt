-- the answer is that of the search in the rest
use Rattle.std.proofs.Common.{◌≡◌, ◌≤◌, length, drop}
use Rattle.http_wire.specs.Heads.{head_len}
use Rattle.http_wire.proofs.Ends.{plus}
use Rattle.http_wire.proofs.head.scan.Given as goal

abbrev pub invariant-loop-at : goal.invariant-loop-at
invariant-loop-at l = (l.at ≤ length l.bytes) × (plus l.at (head_len (drop l.at l.bytes)) ≡ plus l.from (head_len (drop l.from l.bytes)))
