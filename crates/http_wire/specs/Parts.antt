-- Where the parts of a head are.
use Rattle.std.specs.Prelude.{◌≡◌, ℕ, ◌+◌, ◌≤◌, ◌==◌, ◌&&◌, Bool, if◌then◌else◌, List, [], ◌∷◌, length, map, filter, slice_index, slice_range, Option, Some, None, IfSome, option_map, option_and_then}
use Rattle.std.specs.List.{list_all}
use Rattle.es_types.specs.declared.limits.TheConstants.{BODY_BYTES}
use Rattle.httparse.specs.declared.spans.HeaderSpan.{HeaderSpan}
use Rattle.httparse.specs.declared.spans.RequestSpans.{RequestSpans}
use Rattle.httparse.specs.declared.spans.Span.{Span}
use Rattle.httparse.specs.Spans.{IsWithin, header_bytes, span_bytes}
use Rattle.http_wire.specs.declared.head.Parsed.{Parsed}
use Rattle.http_wire.specs.declared.request.Request.{Request}
use Rattle.http_wire.specs.Heads.{Head, IsHead, is_known, is_length, is_moment, length_of}
use Rattle.http_wire.specs.Requests.{request_of}

-- the bytes are a head that is taken, and these are its parts
pub record IsParsed (bytes : List ℕ) (parsed : Parsed) : Type 0 where
  pub head : Head
  pub is : IsHead bytes head
  pub method : span_bytes bytes parsed.method ≡ head.method
  pub target : span_bytes bytes parsed.target ≡ head.target
  pub moment : option_map (span_bytes bytes) parsed.moment ≡ head.moment
  pub body : parsed.body ≡ head.body

-- the parts lie in the first bytes, and the body has a limit
pub record IsParsedWithin (long : ℕ) (parsed : Parsed) : Type 0 where
  pub method : IsWithin long parsed.method
  pub target : IsWithin long parsed.target
  pub moment : IfSome parsed.moment (IsWithin long)
  pub body : parsed.body ≤ BODY_BYTES

-- what a head that was read has to meet besides the grammar
abbrev pub is_taken_head : List ℕ → List HeaderSpan → RequestSpans → Bool
is_taken_head bytes headers spans =
    (spans.len == length bytes) && ((spans.version == 1)
    && ((slice_index (span_bytes bytes spans.path) 0 == 47) && list_all is_known (map (header_bytes bytes) headers)))

-- the value of these lines: none where there is no line, and more than one have none
abbrev pub one_value : List HeaderSpan → Option (Option Span)
one_value [] = Some None
one_value (header ∷ []) = Some (Some header.value)
one_value (header ∷ other ∷ headers) = None

-- where the moment is that these header lines hand in
abbrev pub moment_in : List ℕ → List HeaderSpan → Option (Option Span)
moment_in bytes headers = one_value (filter (λ header. is_moment (header_bytes bytes header)) headers)

abbrev pub with_moment : RequestSpans → ℕ → Option Span → Parsed
with_moment spans body moment = record { method = spans.method; target = spans.path; moment = moment; body = body }

-- its parts, where it meets that
abbrev pub parsed_of : List ℕ → List HeaderSpan → RequestSpans → Option Parsed
parsed_of bytes headers spans =
    if is_taken_head bytes headers spans
    then option_and_then (λ body. option_map (with_moment spans body) (moment_in bytes headers)) (length_of (filter is_length (map (header_bytes bytes) headers)))
    else None

-- the request whose head and body stand at the front
abbrev pub request_at : List ℕ → ℕ → Parsed → Request
request_at held long parsed =
    request_of
    (record { method = span_bytes held parsed.method; target = span_bytes held parsed.target; moment = option_map (span_bytes held) parsed.moment; body = parsed.body })
    (slice_range held long (long + parsed.body))
