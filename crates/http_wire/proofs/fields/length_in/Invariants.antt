-- the length that was found, and the rest
use Rattle.std.proofs.Common.{◌≡◌, ◌≤◌, map, filter, drop}
use Rattle.std.specs.Prelude.{IfSome}
use Rattle.es_types.specs.declared.limits.TheConstants.{BODY_BYTES}
use Rattle.http_wire.specs.Heads.{is_length, length_of}
use Rattle.httparse.specs.Spans.{header_bytes}
use Rattle.http_wire.proofs.Numbers.{found_in}
use Rattle.http_wire.proofs.fields.length_in.Given as goal

abbrev pub invariant-loop-header : goal.invariant-loop-header
invariant-loop-header l = record {
  found : found_in l.found (filter is_length (map (header_bytes l.bytes) (drop l.header-index l.headers)))
      ≡ length_of (filter is_length (map (header_bytes l.bytes) l.headers));
  small : IfSome l.found (λ n. n ≤ BODY_BYTES);
}
