-- all names so far are known, so the rest decides
use Rattle.std.proofs.Common.{◌≡◌, map, drop}
use Rattle.std.specs.List.{list_all}
use Rattle.http_wire.specs.Heads.{is_known}
use Rattle.httparse.specs.Spans.{header_bytes}
use Rattle.http_wire.proofs.fields.all_known.Given as goal

abbrev pub invariant-loop-header : goal.invariant-loop-header
invariant-loop-header l =
    list_all is_known (map (header_bytes l.bytes) (drop l.header-index l.headers)) ≡ list_all is_known (map (header_bytes l.bytes) l.headers)
