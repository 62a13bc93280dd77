-- bytes came, and no head ends in those that were looked at
use Rattle.std.proofs.Common.{◌≡◌, ◌≤◌, None, length, take}
use Rattle.es_types.specs.declared.limits.TheConstants.{HEAD_BYTES}
use Rattle.http_wire.specs.Heads.{head_len}
use Rattle.http_wire.specs.Steps.{Came}
use Rattle.http_wire.proofs.wire.read_head.Given as goal

abbrev pub invariant-loop-long : goal.invariant-loop-long
invariant-loop-long g l = record {
  came : Came l.initial.buf l.buf (g.L.Link.left l.initial.link) (g.L.Link.left l.link);
  seen : l.seen ≤ length l.buf.bytes;
  limit : l.seen ≤ HEAD_BYTES;
  none : head_len (take l.seen l.buf.bytes) ≡ None;
  read_faults : g.L.Link.read_faults l.link ≡ g.L.Link.read_faults l.initial.link;
  written : g.L.Link.written l.link ≡ g.L.Link.written l.initial.link;
  write_faults : g.L.Link.write_faults l.link ≡ g.L.Link.write_faults l.initial.link;
  held : g.L.Link.held l.link ≡ g.L.Link.held l.initial.link;
}

abbrev pub decreases-loop-long : goal.decreases-loop-long
decreases-loop-long g l = l.buf.room
