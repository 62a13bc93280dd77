use Rattle.std.proofs.Common.{◌≡◌, ◌<◌, ◌++◌, length, sym, ap, ◌∙◌, subst, inr, arith}
use Rattle.http_wire.specs.Requests.{IsUnfinished}
use Rattle.http_wire.proofs.Flow.{ended_after}
use Rattle.http_wire.proofs.wire.read_body.Goals as goal

pub returns-in-Err-clause-came : goal.returns-in-Err-clause-came
returns-in-Err-clause-came g c =
    let came = c.loop-link.invariant.came in
    let long : length (c.args.buf.now.bytes ++ came.taken) ≡ length c.held.result.now = ap length (sym came.bytes ∙ sym c.held.ensures) in
    let less : length (c.args.buf.now.bytes ++ came.taken) < c.args.long = omega (arith, long, c.loop-link-test.true) in
    ended_after c.args.buf.now c.loop-link.buf _ _ _ c.in-Err.end came
    (c.in-Err.ensures.read (inr (subst IsUnfinished (sym came.bytes) (c.requires.short came.taken less))))
