use Rattle.std.proofs.Common.{◌≡◌, ◌<◌, ◌≤◌, List, ℕ, None, length, take, sym, ap, ◌∙◌, subst, inr, arith}
use Rattle.std.proofs.lemmas.List.{length-append, take_at}
use Rattle.es_types.specs.declared.limits.TheConstants.{HEAD_BYTES}
use Rattle.http_wire.specs.declared.wire.WireEnd.TheVariants.{NotBuilt, Truncated}
use Rattle.http_wire.specs.Heads.{head_len}
use Rattle.http_wire.proofs.Flow.{came_trans, ended_after, ended_by_end, ended_refused, unchanged}
use Rattle.http_wire.proofs.Front.{late_more, no_end, unfinished_head}
use Rattle.http_wire.proofs.wire.read_head.Goals as goal

pub returns-then-seen-ge-HEAD_BYTES-clause-came : goal.returns-then-seen-ge-HEAD_BYTES-clause-came
returns-then-seen-ge-HEAD_BYTES-clause-came g c =
    let held = c.loop-long.buf.bytes in
    let none : head_len (take HEAD_BYTES held) ≡ None
    = subst (λ (l : List ℕ). head_len (take HEAD_BYTES l) ≡ None) c.held-held.ensures (sym c.head_end.ensures ∙ c.in_default.is) in
    let long : HEAD_BYTES ≤ length held = subst (λ (l : List ℕ). HEAD_BYTES ≤ length l) c.held-held.ensures c.if-seen-ge-HEAD_BYTES.true in
    ended_after c.args.buf.now c.loop-long.buf _ _ _ NotBuilt c.loop-long.invariant.came (ended_refused c.loop-long.buf _ _ (late_more held none long))

pub loop-long-preserved : goal.loop-long-preserved
loop-long-preserved g c =
    let held = c.loop-long.buf.bytes in
    let none : head_len (take HEAD_BYTES held) ≡ None
    = subst (λ (l : List ℕ). head_len (take HEAD_BYTES l) ≡ None) c.held-held.ensures (sym c.head_end.ensures ∙ c.in_default.is) in
    let seen : length c.held-held.result.now ≡ length held = ap length c.held-held.ensures in
    let short : length held < HEAD_BYTES = omega (arith, c.if-seen-ge-HEAD_BYTES.false, seen) in
    let read = rw c.in-Ok-true.field-0-test at c.in-Ok-true.ensures.read in
    let came = read.0 in
    record {
      came = came_trans c.loop-long.invariant.came came;
      seen = omega (arith, seen, ap length came.bytes, length-append held came.taken);
      limit = omega (arith, seen, short);
      none = ap head_len (ap (take (length c.held-held.result.now)) came.bytes ∙ take_at held came.taken (length c.held-held.result.now) (sym seen)) ∙ no_end held none short;
      read_faults = unchanged _ _ c.read_more.ensures.count (λ h. let no : ⊥ = cc (c.in-Ok-true.ensures.reported h) in no) ∙ c.loop-long.invariant.read_faults;
      written = c.read_more.ensures.written ∙ c.loop-long.invariant.written;
      write_faults = c.read_more.ensures.write_faults ∙ c.loop-long.invariant.write_faults;
      held = c.read_more.ensures.held ∙ c.loop-long.invariant.held;
    }

pub returns-in-Ok-false-2-clause-came : goal.returns-in-Ok-false-2-clause-came
returns-in-Ok-false-2-clause-came g c =
    let held = c.loop-long.buf.bytes in
    let none : head_len (take HEAD_BYTES held) ≡ None
    = subst (λ (l : List ℕ). head_len (take HEAD_BYTES l) ≡ None) c.held-held.ensures (sym c.head_end.ensures ∙ c.in_default.is) in
    let seen : length c.held-held.result.now ≡ length held = ap length c.held-held.ensures in
    let short : length held < HEAD_BYTES = omega (arith, c.if-seen-ge-HEAD_BYTES.false, seen) in
    let dry = rw c.in-Ok-false.field-0-test at c.in-Ok-false.ensures.read in
    ended_after c.args.buf.now c.loop-long.buf _ _ _ Truncated c.loop-long.invariant.came
    (ended_by_end c.loop-long.buf _ _ dry (λ e. c.if-seen-eq0.false (seen ∙ ap length e)) (unfinished_head held none short))

pub returns-in-Err-clause-came : goal.returns-in-Err-clause-came
returns-in-Err-clause-came g c =
    let held = c.loop-long.buf.bytes in
    let none : head_len (take HEAD_BYTES held) ≡ None
    = subst (λ (l : List ℕ). head_len (take HEAD_BYTES l) ≡ None) c.held-held.ensures (sym c.head_end.ensures ∙ c.in_default.is) in
    let seen : length c.held-held.result.now ≡ length held = ap length c.held-held.ensures in
    let short : length held < HEAD_BYTES = omega (arith, c.if-seen-ge-HEAD_BYTES.false, seen) in
    ended_after c.args.buf.now c.loop-long.buf _ _ _ c.in-Err.end c.loop-long.invariant.came
    (c.in-Err.ensures.read (inr (unfinished_head held none short)))
