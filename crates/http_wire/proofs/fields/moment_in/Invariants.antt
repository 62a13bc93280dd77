-- the moment that was found, and the rest
use Rattle.std.proofs.Common.{◌≡◌, length, filter, drop}
use Rattle.std.specs.Prelude.{IfSome}
use Rattle.http_wire.specs.Heads.{is_moment}
use Rattle.http_wire.specs.Parts.{moment_in}
use Rattle.httparse.specs.Spans.{IsWithin, header_bytes}
use Rattle.http_wire.proofs.Numbers.{moment_found}
use Rattle.http_wire.proofs.fields.moment_in.Given as goal

abbrev pub invariant-loop-header : goal.invariant-loop-header
invariant-loop-header l = record {
  found : moment_found l.moment (filter (λ header. is_moment (header_bytes l.bytes header)) (drop l.header-index l.headers)) ≡ moment_in l.bytes l.headers;
  within : IfSome l.moment (IsWithin (length l.bytes));
}
