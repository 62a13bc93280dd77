-- bytes came
use Rattle.std.proofs.Common.{◌≡◌}
use Rattle.http_wire.specs.Steps.{Came}
use Rattle.http_wire.proofs.wire.read_body.Given as goal

abbrev pub invariant-loop-link : goal.invariant-loop-link
invariant-loop-link g l = record {
  came : Came l.initial.buf l.buf (g.L.Link.left l.initial.link) (g.L.Link.left l.link);
  read_faults : g.L.Link.read_faults l.link ≡ g.L.Link.read_faults l.initial.link;
  written : g.L.Link.written l.link ≡ g.L.Link.written l.initial.link;
  write_faults : g.L.Link.write_faults l.link ≡ g.L.Link.write_faults l.initial.link;
  held : g.L.Link.held l.link ≡ g.L.Link.held l.initial.link;
}

abbrev pub decreases-loop-link : goal.decreases-loop-link
decreases-loop-link g l = l.buf.room
