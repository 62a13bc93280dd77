use Rattle.std.proofs.Common.{◌≡◌, ◌-◌, ◌+◌, ◌≤◌, List, ℕ, length, take, drop, ◌++◌, ap, ◌∙◌, arith}
use Rattle.std.proofs.lemmas.List.{length-drop, take_at}
use Rattle.es_types.specs.declared.limits.TheConstants.{CONNECTION_BYTES}
use Rattle.http_wire.specs.Stream.{Buffered}
use Rattle.http_wire.proofs.Flow.{ended_by_fault, read_bytes, read_ok}
use Rattle.http_wire.proofs.buf.read_more.Goals as goal

pub returns-then-buf-ge-CONNECTION_BYTES-clause-read :
    goal.returns-then-buf-ge-CONNECTION_BYTES-clause-read
returns-then-buf-ge-CONNECTION_BYTES-clause-read g c =
    c.probe.ensures.read c.args.buf.now (rw (← c.buf.view_is) (omega arith))

pub returns-in-Ok-clause-read : goal.returns-in-Ok-clause-read
returns-in-Ok-clause-read g c =
    let s = c.buf.inside in
    let moved = c.in-Some.moved in
    let start : ℕ = s.start - moved in
    let end : ℕ = s.end - moved in
    let count = c.in-Ok.count in
    let mid : List ℕ = c.make_room.new.bytes.items in
    let new : List ℕ = c.read_after.new.bytes in
    let step : moved ≤ s.start = c.in-Some.ensures.moved in
    let order : start ≤ end = omega (arith, step, c.buf.invariant) in
    let fits : end + count ≤ length new = c.in-Ok.ensures.within.1 in
    let few : count ≤ CONNECTION_BYTES - s.taken = c.in-Ok.ensures.within.0 in
    let front : take end new ≡ take end mid = c.in-Ok.ensures.front ∙ ap (take end) c.as_mut_slice.ensures.value in
    let wide : end - start ≡ s.end - s.start = omega (arith, step, c.buf.invariant) in
    let room : CONNECTION_BYTES - s.taken ≡ c.args.buf.now.room = ap (λ (h : Buffered). h.room) c.buf.view_is in
    let old : take (end - start) (drop start mid) ≡ c.args.buf.now.bytes
    = ap (λ n. take n (drop start mid)) wide ∙ c.in-Some.ensures.same ∙ ap (λ (h : Buffered). h.bytes) c.buf.view_is in
    let back = take_at new (drop (length new) mid) c.make_room.new.bytes.len (c.read_after.auto.bytes ∙ c.as_mut_slice.ensures.len) in
    read_ok c.args.buf.now _ _ _ (drop end new) count
    (ap (λ (l : List ℕ). take ((end + count) - start) (drop start l)) back
    ∙ read_bytes mid new start end count order fits front
    ∙ ap (λ (l : List ℕ). l ++ take count (drop end new)) old)
    (omega (arith, few, room))
    (omega (arith, fits, length-drop end new))
    c.in-Ok.ensures.bytes

pub returns-in-Err-clause-read : goal.returns-in-Err-clause-read
returns-in-Err-clause-read g c = λ held. ended_by_fault c.args.buf.now _ _ c.in-Err.ensures.same held
