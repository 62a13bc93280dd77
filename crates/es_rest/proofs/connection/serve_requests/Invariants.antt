-- How far the connection has come; each request makes what may still be read smaller.
use Rattle.std.proofs.Common.{◌≡◌}
use Rattle.http_wire.specs.Stream.{size}
use Rattle.es_rest.proofs.Progress.{Progress}
use Rattle.es_rest.proofs.connection.serve_requests.Given as goal

abbrev pub invariant-requests : goal.invariant-requests
invariant-requests g l =
    let service = g.V.Service in
    let link = g.L.Link in
    let clock = g.C.Clock in
    record {
      progress : Progress service.helped service.tidied (service.limits l.fn.service) (service.seat l.fn.service) (service.front l.fn.service) (service.front l.service)
          (link.left l.fn.link) (link.left l.link) (link.written l.fn.link) (link.written l.link) clock.asked l.fn.clock l.clock (clock.last l.fn.clock) (clock.last l.clock) (clock.greatest l.fn.clock) (clock.greatest l.clock) l.moment l.buf;
      seat : service.seat l.service ≡ service.seat l.fn.service;
      limits : service.limits l.service ≡ service.limits l.fn.service;
      read_faults : link.read_faults l.link ≡ link.read_faults l.fn.link;
      write_faults : link.write_faults l.link ≡ link.write_faults l.fn.link;
      held : link.held l.link ≡ link.held l.fn.link;
    }

abbrev pub decreases-requests : goal.decreases-requests
decreases-requests g l = size l.buf
