-- The head, and the request, at the front of what is held.
use Rattle.std.proofs.Common.{◌≡◌, ℕ, ◌+◌, ◌-◌, ◌<◌, ◌≤◌, List, ◌++◌, length, take, drop, Option, Some, None, Ok, Err, refl, sym, ap, ◌∙◌, subst, inl, inr, IsUtf8, arith}
use Rattle.std.specs.Prelude.{IfSome, option_map, slice_range}
use Rattle.std.proofs.lemmas.List.{append_assoc, length-append, length-take, length-take-le, length-drop, take_all, take-take, take-append-le, take-append-drop}
use Rattle.std.proofs.lemmas.Slice.{between_is}
use Rattle.es_types.specs.declared.limits.TheConstants.{HEAD_BYTES}
use Rattle.httparse.specs.declared.spans.Span.{Span}
use Rattle.httparse.specs.Grammar.{is_token_byte}
use Rattle.httparse.specs.Grammar as grammar
use Rattle.http.specs.Token as token
use Rattle.httparse.specs.Spans.{IsWithin, span_bytes}
use Rattle.http_wire.specs.declared.head.Parsed.{Parsed}
use Rattle.http_wire.specs.declared.request.Request.{Request}
use Rattle.http_wire.specs.declared.wire.WireEnd.{WireEnd}
use Rattle.http_wire.specs.declared.wire.WireEnd.TheVariants.{NoMemory}
use Rattle.http_wire.specs.Heads.{Head, IsHead, head_len}
use Rattle.http_wire.specs.Requests.{Begins, BeginsWithHead, IsRefused, IsUnfinished, request_of}
use Rattle.http_wire.specs.Parts.{IsParsed, IsParsedWithin, request_at}
use Rattle.http_wire.specs.Steps.{Came, EndedOf, IsShort}
use Rattle.http_wire.specs.Stream.{Buffered, NextOf}
use Rattle.http_wire.proofs.Ends.{head_stays, head_there}
use Rattle.http_wire.proofs.Flow.{take_add}

pub refused_more : (bytes : List ℕ) (n : ℕ) → head_len (take HEAD_BYTES bytes) ≡ Some n
    → ((head : Head) → IsHead (take n bytes) head → ⊥) → (more : List ℕ) → IsRefused (bytes ++ more)
refused_more bytes n ends never more =
    let there = head_there HEAD_BYTES bytes n ends in
    let same : take n (bytes ++ more) ≡ take n bytes = take-append-le n bytes more there.1.1 in
    inr (n, head_stays HEAD_BYTES bytes more n ends, λ head is. never head (subst (λ (l : List ℕ). IsHead l head) same is))

pub late_more : (bytes : List ℕ) → head_len (take HEAD_BYTES bytes) ≡ None → HEAD_BYTES ≤ length bytes → (more : List ℕ) → IsRefused (bytes ++ more)
late_more bytes none long more =
    inl (ap head_len (take-append-le HEAD_BYTES bytes more long) ∙ none, omega (arith, long, length-append bytes more))

pub no_end : (bytes : List ℕ) → head_len (take HEAD_BYTES bytes) ≡ None → length bytes < HEAD_BYTES → head_len bytes ≡ None
no_end bytes none short =
    let low : length bytes ≤ HEAD_BYTES = omega (arith, short) in
    ap head_len (sym (take_all HEAD_BYTES bytes low)) ∙ none

pub unfinished_head : (bytes : List ℕ) → head_len (take HEAD_BYTES bytes) ≡ None → length bytes < HEAD_BYTES → IsUnfinished bytes
unfinished_head bytes none short = inl (no_end bytes none short, short)

pub begins_more : (bytes : List ℕ) (n : ℕ) (head : Head) → head_len (take HEAD_BYTES bytes) ≡ Some n → IsHead (take n bytes) head
    → (more : List ℕ) → BeginsWithHead (bytes ++ more) (take n bytes) head
begins_more bytes n head ends is more =
    let there = head_there HEAD_BYTES bytes n ends in
    let long : length (take n bytes) ≡ n = length-take-le n bytes there.1.1 in
    record {
      ends = head_stays HEAD_BYTES bytes more n ends ∙ ap Some (sym long);
      first = ap (λ k. take k (bytes ++ more)) long ∙ take-append-le n bytes more there.1.1;
      is = is;
    }

pub short_of : (bytes : List ℕ) (n body : ℕ) (head : Head) → head_len (take HEAD_BYTES bytes) ≡ Some n → IsHead (take n bytes) head
    → body ≡ head.body → IsShort bytes (n + body)
short_of bytes n body head ends is e more h =
    let there = head_there HEAD_BYTES bytes n ends in
    let long : length (take n bytes) ≡ n = length-take-le n bytes there.1.1 in
    inr (take n bytes, head, begins_more bytes n head ends is more, omega (arith, h, e, long))

-- the request that stands at the front, whatever follows
begins_of : (held : List ℕ) (n body : ℕ) (head : Head) (request : Request) → head_len (take HEAD_BYTES held) ≡ Some n
    → IsHead (take n held) head → body ≡ head.body → n + body ≤ length held
    → request ≡ request_of head (slice_range held n (n + body)) → (more : List ℕ)
    → Begins (held ++ more) request (drop (n + body) held ++ more)
begins_of held n body head request ends is e fits r more =
    let count : n + body - n ≡ body = omega arith in
    let part : List ℕ = slice_range held n (n + body) in
    let joined : take n held ++ part ≡ take (n + body) held
    = ap (λ k. take n held ++ take k (drop n held)) count ∙ sym (take_add n body held) in
    let split : held ≡ (take n held ++ part) ++ drop (n + body) held
    = sym (take-append-drop (n + body) held) ∙ ap (λ (l : List ℕ). l ++ drop (n + body) held) (sym joined) in
    record {
      bytes = take n held;
      body = part;
      head = head;
      begins = begins_more held n head ends is more;
      long = omega (arith, length-take (n + body - n) (drop n held), length-drop n held, fits, e);
      is = ap (λ (l : List ℕ). l ++ more) split ∙ append_assoc (take n held ++ part) (drop (n + body) held) more;
      request_is = r;
    }

-- a part of a head is the same where more bytes are held
span_front : (bytes more : List ℕ) (n : ℕ) (span : Span) → IsWithin n span → n ≤ length bytes
    → span_bytes (bytes ++ more) span ≡ span_bytes (take n bytes) span
span_front bytes more n span within fits =
    let end : span.end ≤ length bytes = omega (arith, within, fits) in
    between_is (bytes ++ more) span.start span.end
    ∙ ap (drop span.start) (take-append-le span.end bytes more end ∙ sym (take-take span.end n bytes within.1))
    ∙ sym (between_is (take n bytes) span.start span.end)

module _ (bytes more held : List ℕ) (n : ℕ) (parsed : Parsed) (split : held ≡ bytes ++ more) (ends : head_len (take HEAD_BYTES bytes) ≡ Some n)
    (within : IsParsedWithin (length (take n bytes)) parsed) (is : IsParsed (take n bytes) parsed) where
  low : n ≤ length bytes
  low = (head_there HEAD_BYTES bytes n ends).1.1

  held_within : IsParsedWithin n parsed
  held_within = subst (λ k. IsParsedWithin k parsed) (length-take-le n bytes low) within

  pub method_is : span_bytes held parsed.method ≡ is.head.method
  method_is = ap (λ (l : List ℕ). span_bytes l parsed.method) split ∙ span_front bytes more n parsed.method held_within.method low ∙ is.method

  pub target_is : span_bytes held parsed.target ≡ is.head.target
  target_is = ap (λ (l : List ℕ). span_bytes l parsed.target) split ∙ span_front bytes more n parsed.target held_within.target low ∙ is.target

  moment_at : (at : Option Span) → IfSome at (IsWithin n) → option_map (span_bytes held) at ≡ option_map (span_bytes (take n bytes)) at
  moment_at None w = refl
  moment_at (Some span) w = ap Some (ap (λ (l : List ℕ). span_bytes l span) split ∙ span_front bytes more n span w low)

  moment_is : option_map (span_bytes held) parsed.moment ≡ is.head.moment
  moment_is = moment_at parsed.moment held_within.moment ∙ is.moment

  same_head : ◌≡◌ {A = Head} (record { method = span_bytes held parsed.method; target = span_bytes held parsed.target; moment = option_map (span_bytes held) parsed.moment; body = parsed.body }) is.head
  same_head =
      ap (λ (m : List ℕ). let h : Head = record { method = m; target = span_bytes held parsed.target; moment = option_map (span_bytes held) parsed.moment; body = parsed.body } in h) method_is
      ∙ ap (λ (t : List ℕ). let h : Head = record { method = is.head.method; target = t; moment = option_map (span_bytes held) parsed.moment; body = parsed.body } in h) target_is
      ∙ ap (λ (w : Option (List ℕ)). let h : Head = record { method = is.head.method; target = is.head.target; moment = w; body = parsed.body } in h) moment_is
      ∙ ap (λ (b : ℕ). let h : Head = record { method = is.head.method; target = is.head.target; moment = is.head.moment; body = b } in h) is.body

  pub begins_at : (request : Request) → n + parsed.body ≤ length held → request ≡ request_at held n parsed → (rest : List ℕ)
      → Begins (held ++ rest) request (drop (n + parsed.body) held ++ rest)
  begins_at request fits r rest =
      let there : head_len (take HEAD_BYTES held) ≡ Some n = ap (λ (l : List ℕ). head_len (take HEAD_BYTES l)) split ∙ head_stays HEAD_BYTES bytes more n ends in
      let front : take n held ≡ take n bytes = ap (take n) split ∙ take-append-le n bytes more low in
      begins_of held n parsed.body is.head request there (subst (λ (l : List ℕ). IsHead l is.head) (sym front) is.is) is.body fits
      (r ∙ ap (λ (h : Head). request_of h (slice_range held n (n + parsed.body))) same_head) rest

token_same : (bytes : List ℕ) → grammar.IsToken bytes → token.IsToken bytes
unfolding grammar.is_token_byte token.is_token_byte
token_same bytes h = h

pub token_of : (bytes : List ℕ) (head : Head) → IsHead bytes head → token.IsToken head.method
token_of bytes head is = token_same head.method (subst grammar.IsToken (sym is.method) is.reads.0.method)

pub text_of : (bytes : List ℕ) (head : Head) → IsHead bytes head → IsUtf8 head.target
text_of bytes head is = subst IsUtf8 (sym is.target) is.reads.0.target_text

-- what a call gave
pub next_err : (old new : Buffered) (before left : Option (List ℕ)) (end : WireEnd) → EndedOf old before left end → NextOf old new before left (Err end)
next_err old new None left end h = tt
next_err old new (Some before) left end h = h

pub no_memory : (old new : Buffered) (before left : Option (List ℕ)) → NextOf old new before left (Err NoMemory)
no_memory old new None left = tt
no_memory old new (Some before) left = tt

pub next_some : (old now new : Buffered) (before left : Option (List ℕ)) (request : Request) → Came old now before left
    → ((more : List ℕ) → Begins (now.bytes ++ more) request (new.bytes ++ more)) → new.room ≡ now.room
    → NextOf old new before left (Ok (Some request))
next_some old now new None left request came begins room = tt
next_some old now new (Some before) left request came begins room =
    record {
      taken = came.taken;
      after = came.told.0;
      took = record { from = came.told.1; within = omega (arith, came.room) };
      left_is = came.told.2;
      begins = λ more. subst (λ (l : List ℕ). Begins (l ++ more) request (new.bytes ++ more)) came.bytes (begins more);
      room = omega (arith, came.room, room);
    }
