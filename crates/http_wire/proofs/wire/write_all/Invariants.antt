-- the first bytes were written, and nothing else changed
use Rattle.std.proofs.Common.{length, take, ◌-◌, ◌≡◌, ◌≤◌}
use Rattle.http_wire.specs.Stream.{Wrote}
use Rattle.http_wire.proofs.wire.write_all.Given as goal

abbrev pub invariant-loop-at : goal.invariant-loop-at
invariant-loop-at g l = record {
  within : l.at ≤ length l.bytes;
  wrote : Wrote (g.L.Link.written l.initial.link) (g.L.Link.written l.link) (take l.at l.bytes);
  write_faults : g.L.Link.write_faults l.link ≡ g.L.Link.write_faults l.initial.link;
  left : g.L.Link.left l.link ≡ g.L.Link.left l.initial.link;
  read_faults : g.L.Link.read_faults l.link ≡ g.L.Link.read_faults l.initial.link;
  held : g.L.Link.held l.link ≡ g.L.Link.held l.initial.link;
}

abbrev pub decreases-loop-at : goal.decreases-loop-at
decreases-loop-at g l = length l.bytes - l.at
