use Rattle.std.proofs.Common.{◌-◌, ◌+◌, ◌≤◌, List, ℕ, length, take, drop, ap, sym, subst, arith}
use Rattle.std.proofs.lemmas.List.{length-take}
use Rattle.es_types.specs.declared.limits.TheConstants.{CONNECTION_BYTES}
use Rattle.http_wire.specs.Stream.{Buffered}
use Rattle.http_wire.proofs.Flow.{advance_bytes}
use Rattle.http_wire.proofs.buf.Buf.advance.Goals as goal

pub returns-else-self : goal.returns-else-self
returns-else-self c =
    let s = c.self.inside in
    let enough : c.args.count ≤ length (take (s.end - s.start) (drop s.start s.bytes.items)) = subst (λ (h : Buffered). c.args.count ≤ length h.bytes) (sym c.self.view_is) c.requires in
    let long = length-take (s.end - s.start) (drop s.start s.bytes.items) in
    let within : s.start + c.args.count ≤ s.end = omega (arith, enough, long, c.self.invariant) in
    rw (← c.self.view_is) (ap (λ (l : List ℕ). let held : Buffered = record { bytes = l; room = CONNECTION_BYTES - s.taken } in held) (advance_bytes s.bytes.items s.start s.end c.args.count within))
