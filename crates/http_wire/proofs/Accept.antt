-- When a head that was read is one that is taken.
use Rattle.std.proofs.Common.{◌≡◌, ℕ, ◌+◌, ◌≤◌, ◌&&◌, Bool, true, false, cond, eqb, List, [], ◌∷◌, length, take, drop, map, filter, Option, Some, None, refl, sym, ap, ◌∙◌, subst, arith}
use Rattle.std.specs.Cmp.Derive.{both_true}
use Rattle.std.specs.Prelude.{slice_index, IfNone, IfSome}
use Rattle.std.specs.List.{list_all}
use Rattle.std.specs.Option.{option_and_then, option_map}
use Rattle.std.proofs.lemmas.Bool.{and_parts, eq-eqb, eqb-true}
use Rattle.std.proofs.lemmas.List.{length-append, length-map, length-take, drop_all}
use Rattle.httparse.specs.declared.spans.HeaderSpan.{HeaderSpan}
use Rattle.httparse.specs.declared.spans.RequestSpans.{RequestSpans}
use Rattle.httparse.specs.declared.spans.Span.{Span}
use Rattle.httparse.specs.Grammar.{RequestHead, ReadsRequest, print_request}
use Rattle.httparse.specs.Spans.{IsRequestAt, IsRequestOf, header_bytes, name_and_value, span_bytes}
use Rattle.httparse.proofs.GrammarLemmas.{request_unique}
use Rattle.http_wire.specs.declared.head.Parsed.{Parsed}
use Rattle.http_wire.specs.Heads.{Head, IsHead, is_known, is_length, is_moment, length_of, moment_of}
use Rattle.http_wire.specs.Parts.{IsParsed, is_taken_head, moment_in, one_value, parsed_of, with_moment}

-- the length that the lines of these spans give
abbrev body_in : List ℕ → List HeaderSpan → Option ℕ
body_in bytes headers = length_of (filter is_length (map (header_bytes bytes) headers))

abbrev picked : RequestSpans → Bool → Option ℕ → Option (Option Span) → Option Parsed
picked spans v o m = cond v (option_and_then (λ n. option_map (with_moment spans n) m) o) None

parts_of : (spans : RequestSpans) (v : Bool) (o : Option ℕ) (m : Option (Option Span)) (p : Parsed) → Some p ≡ picked spans v o m
    → (v ≡ true) × (n : ℕ) × (o ≡ Some n) × (at : Option Span) × (m ≡ Some at) × (p ≡ with_moment spans n at)
parts_of spans false o m p h = let no : ⊥ = cc in absurd no
parts_of spans true None m p h = let no : ⊥ = cc in absurd no
parts_of spans true (Some n) None p h = let no : ⊥ = cc in absurd no
parts_of spans true (Some n) (Some at) p h = let same : p ≡ with_moment spans n at = cc in (refl, n, refl, at, refl, same)

-- the lines of a name are those of the spans that have it
kept_lines : (bytes : List ℕ) (headers : List HeaderSpan)
    → filter is_moment (map (header_bytes bytes) headers) ≡ map (header_bytes bytes) (filter (λ (h : HeaderSpan). is_moment (header_bytes bytes h)) headers)
kept_lines bytes [] = refl
kept_lines bytes (h ∷ headers) =
    elim (is_moment (header_bytes bytes h)) as (λ v.
    cond v (header_bytes bytes h ∷ filter is_moment (map (header_bytes bytes) headers)) (filter is_moment (map (header_bytes bytes) headers))
    ≡ map (header_bytes bytes) (cond v (h ∷ filter (λ (h : HeaderSpan). is_moment (header_bytes bytes h)) headers) (filter (λ (h : HeaderSpan). is_moment (header_bytes bytes h)) headers))) [
      | true ↦ ap (λ (l : List (List ℕ × List ℕ)). header_bytes bytes h ∷ l) (kept_lines bytes headers)
      | false ↦ kept_lines bytes headers
    ]

-- their value is the one that its span covers
value_same : (bytes : List ℕ) (headers : List HeaderSpan) (at : Option Span) → one_value headers ≡ Some at
    → moment_of (map (header_bytes bytes) headers) ≡ Some (option_map (span_bytes bytes) at)
value_same bytes [] at h = let same : None ≡ at = cc in ap (λ (s : Option Span). Some (option_map (span_bytes bytes) s)) same
value_same bytes (x ∷ []) at h = let same : Some x.value ≡ at = cc in ap (λ (s : Option Span). Some (option_map (span_bytes bytes) s)) same
value_same bytes (x ∷ y ∷ headers) at h = let no : ⊥ = cc in absurd no

moment_same : (bytes : List ℕ) (headers : List HeaderSpan) (at : Option Span) → moment_in bytes headers ≡ Some at
    → moment_of (filter is_moment (map (header_bytes bytes) headers)) ≡ Some (option_map (span_bytes bytes) at)
moment_same bytes headers at h =
    ap moment_of (kept_lines bytes headers) ∙ value_same bytes (filter (λ (h : HeaderSpan). is_moment (header_bytes bytes h)) headers) at h

parsed_some : (bytes : List ℕ) (all : List HeaderSpan) (spans : RequestSpans) (p : Parsed) → length all ≤ 100
    → IsRequestOf bytes all spans → Some p ≡ parsed_of bytes (take spans.headers all) spans → IsParsed bytes p
parsed_some bytes all spans p room of h =
    let parts = parts_of spans (is_taken_head bytes (take spans.headers all) spans) (body_in bytes (take spans.headers all)) (moment_in bytes (take spans.headers all)) p h in
    let n = parts.1 in
    let at_moment = parts.3 in
    let grammar : RequestHead = of.0 in
    let at : IsRequestAt bytes all spans grammar = of.1 in
    let headers = take spans.headers all in
    let known : Bool = list_all is_known (map (header_bytes bytes) headers) in
    let slash : Bool = eqb (slice_index (span_bytes bytes spans.path) 0) 47 in
    let a = and_parts (eqb spans.len (length bytes)) (eqb spans.version 1 && (slash && known)) parts.0 in
    let b = and_parts (eqb spans.version 1) (slash && known) a.1 in
    let c = and_parts slash known b.1 in
    let len : spans.len ≡ length bytes = eqb-true spans.len (length bytes) a.0 in
    let rest : drop spans.len bytes ≡ [] = drop_all spans.len bytes (omega (arith, len)) in
    let lines : map (header_bytes bytes) headers ≡ map name_and_value grammar.fields = at.fields in
    let long : length headers ≡ length grammar.fields
    = sym (length-map headers (header_bytes bytes)) ∙ ap length lines ∙ length-map grammar.fields name_and_value in
    let few : length grammar.fields ≤ 100 = omega (arith, long, room, length-take spans.headers all) in
    let head : Head = record { method = grammar.method; target = grammar.target; moment = option_map (span_bytes bytes) at_moment; body = n } in
    record {
      head = head;
      is = record {
        grammar = grammar;
        reads = subst (λ (l : List ℕ). ReadsRequest bytes grammar l) rest at.reads;
        few = few;
        version = sym at.version ∙ eqb-true spans.version 1 b.0;
        method = refl;
        target = refl;
        slash = ap (λ (l : List ℕ). slice_index l 0) (sym at.path) ∙ eqb-true (slice_index (span_bytes bytes spans.path) 0) 47 c.0;
        known = ap (list_all is_known) (sym lines) ∙ c.1;
        moment = ap (λ (l : List (List ℕ × List ℕ)). moment_of (filter is_moment l)) (sym lines) ∙ moment_same bytes headers at_moment parts.4;
        body = ap (λ (l : List (List ℕ × List ℕ)). length_of (filter is_length l)) (sym lines) ∙ parts.2;
      };
      method = ap (λ (q : Parsed). span_bytes bytes q.method) parts.5 ∙ at.method;
      target = ap (λ (q : Parsed). span_bytes bytes q.target) parts.5 ∙ at.path;
      moment = ap (λ (q : Parsed). option_map (span_bytes bytes) q.moment) parts.5;
      body = ap (λ (q : Parsed). q.body) parts.5;
    }

pub parsed_is : (bytes : List ℕ) (all : List HeaderSpan) (spans : RequestSpans) (result : Option Parsed) → length all ≤ 100
    → IsRequestOf bytes all spans → result ≡ parsed_of bytes (take spans.headers all) spans → IfSome result (IsParsed bytes)
parsed_is bytes all spans None room of h = tt
parsed_is bytes all spans (Some p) room of h = parsed_some bytes all spans p room of h

some_value : (bytes : List ℕ) (headers : List HeaderSpan) (m : Option (List ℕ)) → moment_of (map (header_bytes bytes) headers) ≡ Some m
    → (at : Option Span) × (one_value headers ≡ Some at)
some_value bytes [] m h = (None, refl)
some_value bytes (x ∷ []) m h = (Some x.value, refl)
some_value bytes (x ∷ y ∷ headers) m h = let no : ⊥ = cc in absurd no

-- a head that is taken has its parts
parsed_there : (bytes : List ℕ) (all : List HeaderSpan) (spans : RequestSpans) (head : Head)
    → IsRequestOf bytes all spans → IsHead bytes head → (p : Parsed) × (parsed_of bytes (take spans.headers all) spans ≡ Some p)
parsed_there bytes all spans head of is =
    let at : IsRequestAt bytes all spans of.0 = of.1 in
    let headers = take spans.headers all in
    let one = request_unique bytes of.0 is.grammar (drop spans.len bytes) [] at.reads is.reads in
    let rest : length (drop spans.len bytes) ≡ 0 = ap length one.1 in
    let whole : length bytes ≡ length (print_request of.0) + length (drop spans.len bytes)
    = ap length at.reads.1 ∙ length-append (print_request of.0) (drop spans.len bytes) in
    let len : spans.len ≡ length bytes = omega (arith, rest, whole, at.len) in
    let version : spans.version ≡ 1 = at.version ∙ (ap (λ (g : RequestHead). g.minor) one.0 ∙ is.version) in
    let slash : slice_index (span_bytes bytes spans.path) 0 ≡ 47
    = ap (λ (l : List ℕ). slice_index l 0) (at.path ∙ ap (λ (g : RequestHead). g.target) one.0) ∙ is.slash in
    let lines : map (header_bytes bytes) headers ≡ map name_and_value is.grammar.fields
    = at.fields ∙ ap (λ (g : RequestHead). map name_and_value g.fields) one.0 in
    let known : list_all is_known (map (header_bytes bytes) headers) ≡ true = ap (list_all is_known) lines ∙ is.known in
    let body : body_in bytes headers ≡ Some head.body
    = ap (λ (l : List (List ℕ × List ℕ)). length_of (filter is_length l)) lines ∙ is.body in
    let moment = some_value bytes (filter (λ (h : HeaderSpan). is_moment (header_bytes bytes h)) headers) head.moment
    (sym (ap moment_of (kept_lines bytes headers)) ∙ (ap (λ (l : List (List ℕ × List ℕ)). moment_of (filter is_moment l)) lines ∙ is.moment)) in
    let taken : is_taken_head bytes headers spans ≡ true
    = both_true (eq-eqb spans.len (length bytes) len) (both_true (eq-eqb spans.version 1 version) (both_true (eq-eqb (slice_index (span_bytes bytes spans.path) 0) 47 slash) known)) in (
      with_moment spans head.body moment.0,
      ap (λ v. picked spans v (body_in bytes headers) (moment_in bytes headers)) taken
          ∙ (ap (λ o. picked spans true o (moment_in bytes headers)) body ∙ ap (λ m. picked spans true (Some head.body) m) moment.1),
    )

-- so where there are none, it is no such head
pub parsed_none : (bytes : List ℕ) (all : List HeaderSpan) (spans : RequestSpans) (result : Option Parsed)
    → IsRequestOf bytes all spans → result ≡ parsed_of bytes (take spans.headers all) spans → IfNone result ((head : Head) → IsHead bytes head → ⊥)
parsed_none bytes all spans (Some p) of h = tt
parsed_none bytes all spans None of h =
    λ (head : Head) (is : IsHead bytes head).
    let there = parsed_there bytes all spans head of is in
    let no : None ≡ Some there.0 = h ∙ there.1 in
    let never : ⊥ = cc in
    never
