use Rattle.std.proofs.Common.{◌≡◌, ◌++◌, List, ℕ, length, take, sym, ap, ◌∙◌, subst, IsUtf8, arith}
use Rattle.std.proofs.lemmas.List.{length-take-le}
use Rattle.es_types.specs.declared.limits.TheConstants.{HEAD_BYTES}
use Rattle.http.specs.Token.{IsToken}
use Rattle.http_wire.specs.declared.wire.WireEnd.TheVariants.{NotBuilt}
use Rattle.http_wire.specs.Heads.{Head, IsHead}
use Rattle.http_wire.specs.Parts.{IsParsed, IsParsedWithin, request_at}
use Rattle.http_wire.specs.Requests.{Begins}
use Rattle.http_wire.specs.Stream.{Buffered}
use Rattle.http_wire.proofs.Ends.{head_there}
use Rattle.http_wire.proofs.Flow.{came_trans, ended_after, ended_refused, unchanged}
use Rattle.http_wire.proofs.Front.{begins_at, method_is, next_err, next_some, no_memory, refused_more, short_of, target_is, text_of, token_of}
use Rattle.http_wire.proofs.wire.next_request.Goals as goal

pub slice_bounds-head_of-end : goal.slice_bounds-head_of-end
slice_bounds-head_of-end g c =
    let start = rw c.in-Ok-Some.field-0-is at c.in-Ok-Some.ensures.came in
    let there = head_there HEAD_BYTES c.read_head.new.buf.bytes c.in-Ok-Some.long start.1 in
    sym (length-take-le c.in-Ok-Some.long c.held.result.now (omega (arith, there.1.1, ap length c.held.ensures)))

pub returns-in_default-clause-next : goal.returns-in_default-clause-next
returns-in_default-clause-next g c =
    let n = c.in-Ok-Some.long in
    let start = rw c.in-Ok-Some.field-0-is at c.in-Ok-Some.ensures.came in
    let never = λ (head : Head) (is : IsHead (take n c.read_head.new.buf.bytes) head). c.in_default.ensures.not head (subst (λ (l : List ℕ). IsHead (take n l) head) (sym c.held.ensures) is) in
    next_err c.args.buf.now _ _ _ NotBuilt
    (ended_after c.args.buf.now c.read_head.new.buf _ _ _ NotBuilt start.0
    (ended_refused c.read_head.new.buf _ _ (refused_more c.read_head.new.buf.bytes n start.1 never)))

pub overflow_add-long : goal.overflow_add-long
overflow_add-long g c =
    let start = rw c.in-Ok-Some.field-0-is at c.in-Ok-Some.ensures.came in
    let there = head_there HEAD_BYTES c.read_head.new.buf.bytes c.in-Ok-Some.long start.1 in
    omega (arith, there.1.0, c.in-Some.ensures.within.body)

pub read_body-requires-clause-short : goal.read_body-requires-clause-short
read_body-requires-clause-short g c =
    let n = c.in-Ok-Some.long in
    let start = rw c.in-Ok-Some.field-0-is at c.in-Ok-Some.ensures.came in
    let parsed : IsParsed (take n c.read_head.new.buf.bytes) c.in-Some.head
    = subst (λ (l : List ℕ). IsParsed (take n l) c.in-Some.head) c.held.ensures c.in-Some.ensures.is in
    short_of c.read_head.new.buf.bytes n c.in-Some.head.body parsed.head start.1 parsed.is parsed.body

pub returns-in-Err-read_body-clause-next : goal.returns-in-Err-read_body-clause-next
returns-in-Err-read_body-clause-next g c =
    let start = rw c.in-Ok-Some.field-0-is at c.in-Ok-Some.ensures.came in
    next_err c.args.buf.now _ _ _ c.in-Err-read_body.end
    (ended_after c.args.buf.now c.read_head.new.buf _ _ _ c.in-Err-read_body.end start.0 c.in-Err-read_body.ensures.came)

pub cut-requires-clause-token : goal.cut-requires-clause-token
cut-requires-clause-token g c =
    let n = c.in-Ok-Some.long in
    let first = c.read_head.new.buf.bytes in
    let start = rw c.in-Ok-Some.field-0-is at c.in-Ok-Some.ensures.came in
    let parsed : IsParsed (take n first) c.in-Some.head
    = subst (λ (l : List ℕ). IsParsed (take n l) c.in-Some.head) c.held.ensures c.in-Some.ensures.is in
    let within : IsParsedWithin (length (take n first)) c.in-Some.head
    = subst (λ (l : List ℕ). IsParsedWithin (length (take n l)) c.in-Some.head) c.held.ensures c.in-Some.ensures.within in
    let more = c.in-Ok.ensures.came.0 in
    let split : c.held-2.result.now ≡ first ++ more.taken = c.held-2.ensures ∙ more.bytes in
    let same = method_is first more.taken c.held-2.result.now n c.in-Some.head split start.1 within parsed in
    subst IsToken (sym same) (token_of (take n first) parsed.head parsed.is)

pub cut-requires-clause-text : goal.cut-requires-clause-text
cut-requires-clause-text g c =
    let n = c.in-Ok-Some.long in
    let first = c.read_head.new.buf.bytes in
    let start = rw c.in-Ok-Some.field-0-is at c.in-Ok-Some.ensures.came in
    let parsed : IsParsed (take n first) c.in-Some.head
    = subst (λ (l : List ℕ). IsParsed (take n l) c.in-Some.head) c.held.ensures c.in-Some.ensures.is in
    let within : IsParsedWithin (length (take n first)) c.in-Some.head
    = subst (λ (l : List ℕ). IsParsedWithin (length (take n l)) c.in-Some.head) c.held.ensures c.in-Some.ensures.within in
    let more = c.in-Ok.ensures.came.0 in
    let split : c.held-2.result.now ≡ first ++ more.taken = c.held-2.ensures ∙ more.bytes in
    let same = target_is first more.taken c.held-2.result.now n c.in-Some.head split start.1 within parsed in
    subst IsUtf8 (sym same) (text_of (take n first) parsed.head parsed.is)

pub returns-in-Some-cut-clause-next : goal.returns-in-Some-cut-clause-next
returns-in-Some-cut-clause-next g c =
    let n = c.in-Ok-Some.long in
    let first = c.read_head.new.buf.bytes in
    let now = c.read_body.new.buf in
    let start = rw c.in-Ok-Some.field-0-is at c.in-Ok-Some.ensures.came in
    let parsed : IsParsed (take n first) c.in-Some.head
    = subst (λ (l : List ℕ). IsParsed (take n l) c.in-Some.head) c.held.ensures c.in-Some.ensures.is in
    let within : IsParsedWithin (length (take n first)) c.in-Some.head
    = subst (λ (l : List ℕ). IsParsedWithin (length (take n l)) c.in-Some.head) c.held.ensures c.in-Some.ensures.within in
    let more = c.in-Ok.ensures.came.0 in
    let request = c.in-Some-cut.request in
    let is : request ≡ request_at now.bytes n c.in-Some.head
    = c.in-Some-cut.ensures ∙ ap (λ (l : List ℕ). request_at l n c.in-Some.head) c.held-2.ensures in
    let rest = ap (λ (h : Buffered). h.bytes) c.advance.ensures in
    next_some c.args.buf.now now c.advance.new.self _ _ request (came_trans start.0 more)
    (λ later. subst (λ (l : List ℕ). Begins (now.bytes ++ later) request (l ++ later)) (sym rest)
    (begins_at first more.taken now.bytes n c.in-Some.head more.bytes start.1 within parsed request c.in-Ok.ensures.came.1 is later))
    (ap (λ (h : Buffered). h.room) c.advance.ensures)

pub returns-in-None-clause-next : goal.returns-in-None-clause-next
returns-in-None-clause-next g c = no_memory c.args.buf.now _ _ _

pub returns-in-Some-cut-clause-reported : goal.returns-in-Some-cut-clause-reported
returns-in-Some-cut-clause-reported g c =
    let head = unchanged _ _ c.read_head.ensures.count (λ h. let no : ⊥ = cc (c.in-Ok-Some.ensures.reported h) in no) in
    let body = unchanged _ _ c.read_body.ensures.count (λ h. let no : ⊥ = cc (c.in-Ok.ensures.reported h) in no) in
    λ rose. absurd (omega (arith, rose, head, body))
