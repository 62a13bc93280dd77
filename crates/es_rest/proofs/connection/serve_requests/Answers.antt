-- Each end, and each request more.
use Rattle.std.proofs.Common.{refl, ◌∙◌, []}
use Rattle.es_types.specs.declared.limits.TheConstants.{CONNECTION_BYTES}
use Rattle.http_wire.specs.Stream.{Buffered}
use Rattle.http_wire.proofs.Flow.{unchanged}
use Rattle.es_rest.proofs.Ends.{failed, ended, closed, next_wants}
use Rattle.es_rest.proofs.Progress.{starts, goes_on}
use Rattle.es_rest.proofs.connection.serve_requests.Goals as goal

pub requests-init : goal.requests-init
requests-init g c =
    let s = g.V.Service in
    let link = g.L.Link in
    let clock = g.C.Clock in
    let service = c.args.service.now in
    record {
      progress = starts s.helped s.tidied (s.limits service) (s.seat service) (s.front service) (link.left c.args.link.now) (link.written c.args.link.now) clock.asked c.args.clock.now (clock.last c.args.clock.now) (clock.greatest c.args.clock.now)
          c.zero-moment.result c.in-Ok.parts.1 c.zero-moment.ensures c.in-Ok.ensures.buf;
      seat = refl;
      limits = refl;
      read_faults = refl;
      write_faults = refl;
      held = refl;
    }

pub returns-in-Ok-None-clause-headline : goal.returns-in-Ok-None-clause-headline
returns-in-Ok-None-clause-headline g c =
    ended _ c.next_request.new.buf c.requests.invariant.progress c.in-Ok-None.ensures.written (rw c.in-Ok-None.field-0-is at c.in-Ok-None.ensures.next)
    (c.pages_in_turn.ensures (g.V.Service.limits c.args.service.now) (g.V.Service.front c.requests.service))

pub returns-in-Err-next_request-clause-headline : goal.returns-in-Err-next_request-clause-headline
returns-in-Err-next_request-clause-headline g c =
    closed _ _ c.next_request.new.buf c.requests.invariant.progress c.in-Err-next_request.ensures.written c.in-Err-next_request.ensures.next
    c.close-in-Err-next_request.ensures.left c.close-in-Err-next_request.ensures.closed
    (c.pages_in_turn.ensures (g.V.Service.limits c.args.service.now) (g.V.Service.front c.requests.service))

pub returns-in-Err-clause-headline : goal.returns-in-Err-clause-headline
returns-in-Err-clause-headline g c =
    let s = g.V.Service in
    let link = g.L.Link in
    let limits = s.limits c.args.service.now in
    let first = s.front c.args.service.now in
    let left = link.left c.args.link.now in
    let held : Buffered = record { bytes = []; room = CONNECTION_BYTES } in
    let p = starts s.helped s.tidied limits (s.seat c.args.service.now) first left (link.written c.args.link.now) g.C.Clock.asked c.args.clock.now (g.C.Clock.last c.args.clock.now) (g.C.Clock.greatest c.args.clock.now) 0 held refl refl in
    closed left (link.left c.close.new.link) held p refl (next_wants left left held held) c.close.ensures.left c.close.ensures.closed (c.pages_in_turn.ensures limits first)

pub returns-in-Err-exchange-clause-headline : goal.returns-in-Err-exchange-clause-headline
returns-in-Err-exchange-clause-headline g c =
    let of = c.in-Err-exchange.ensures in
    failed _ _ _ _ _ c.next_request.new.buf c.requests.invariant.progress c.in-Ok-Some.ensures.written (rw c.in-Ok-Some.field-0-is at c.in-Ok-Some.ensures.next) of.left
    c.requests.invariant.limits c.requests.invariant.seat of.exchanged of.later of.answered of.last of.asks
    (c.pages_in_turn.ensures (g.V.Service.limits c.args.service.now) (g.V.Service.front c.exchange.new.service))

pub requests-preserved : goal.requests-preserved
requests-preserved g c =
    let of = c.in-Ok-exchange.ensures in
    record {
      progress = goes_on _ _ _ _ _ c.next_request.new.buf c.requests.invariant.progress c.in-Ok-Some.ensures.written (rw c.in-Ok-Some.field-0-is at c.in-Ok-Some.ensures.next) of.left
          c.requests.invariant.limits c.requests.invariant.seat of.exchanged of.later of.answered of.last of.asks;
      seat = of.seat ∙ c.requests.invariant.seat;
      limits = of.limits ∙ c.requests.invariant.limits;
      read_faults = of.read_faults ∙ (unchanged _ _ c.in-Ok-Some.ensures.count (λ h. let no : ⊥ = cc (c.in-Ok-Some.ensures.reported h) in no) ∙ c.requests.invariant.read_faults);
      write_faults = of.uncounted ∙ (c.in-Ok-Some.ensures.write_faults ∙ c.requests.invariant.write_faults);
      held = of.held ∙ (c.in-Ok-Some.ensures.held ∙ c.requests.invariant.held);
    }
