-- The header lines of a head, and the numbers that they hold.
use Rattle.std.proofs.Common.{◌≡◌, ℕ, ◌+◌, ◌-◌, ◌*◌, ◌<◌, ◌≤◌, ◌&&◌, Bool, false, ltb, leb, List, [], ◌∷◌, length, drop, get_or, Option, Some, None, ap, ◌∙◌, arith}
use Rattle.std.specs.Char.{digit_value, is_ascii_digit}
use Rattle.std.specs.List.{list_all}
use Rattle.std.specs.Str.Parse.{digits_value, digits_value_after}
use Rattle.std.proofs.lemmas.Bool.{and_right, cond-false, cond-true, lt-leb, lt-ltb, le-ltb}
use Rattle.std.proofs.lemmas.List.{drop_more}
use Rattle.httparse.specs.declared.spans.HeaderSpan.{HeaderSpan}
use Rattle.httparse.specs.declared.spans.Span.{Span}
use Rattle.http_wire.specs.Heads.{length_of, number_of}
use Rattle.http_wire.specs.Parts.{one_value}

abbrev some : List ℕ → Bool
some digits = ltb 0 (length digits)

abbrev few : ℕ → List ℕ → Bool
few most digits = leb (length digits) most

abbrev all : List ℕ → Bool
all digits = list_all is_ascii_digit digits

abbrev low : ℕ → List ℕ → Bool
low limit digits = leb (digits_value 10 digits) limit

no_number : (most limit : ℕ) (digits : List ℕ) → (some digits && (few most digits && (all digits && low limit digits))) ≡ false → number_of most limit digits ≡ None
no_number most limit digits h = cond-false (some digits && (few most digits && (all digits && low limit digits))) (Some (digits_value 10 digits)) None h

pub number_big : (most limit : ℕ) (digits : List ℕ) → limit < digits_value 10 digits → number_of most limit digits ≡ None
number_big most limit digits h =
    no_number most limit digits
    (and_right (some digits) (few most digits && (all digits && low limit digits))
    (and_right (few most digits) (all digits && low limit digits) (and_right (all digits) (low limit digits) (lt-leb (digits_value 10 digits) limit h))))

-- a number that is over the limit stays so
pub value_grows : (value : ℕ) (digits : List ℕ) → value ≤ digits_value_after 10 value digits
value_grows value [] = omega arith
value_grows value (d ∷ digits) =
    let more = value_grows (value * 10 + digit_value d) digits in omega (arith, more)

pub value_more : (value : ℕ) (digits : List ℕ) (i : ℕ) → i < length digits
    → digits_value_after 10 value (drop i digits) ≡ digits_value_after 10 (value * 10 + digit_value (get_or digits i 0)) (drop (i + 1) digits)
value_more value digits i h = ap (λ (l : List ℕ). digits_value_after 10 value l) (drop_more digits i 0 h)

pub digit_is : (d : ℕ) → 48 ≤ d → d ≤ 57 → digit_value d ≡ d - 48
digit_is d low high =
    cond-false (ltb d 48) 36 _ (le-ltb d 48 low) ∙ cond-true (ltb d 58) (d - 48) _ (lt-ltb d 58 (omega arith))

-- the length that is found, where one was found before
abbrev pub found_in : Option ℕ → List (List ℕ × List ℕ) → Option ℕ
found_in None lines = length_of lines
found_in (Some n) [] = Some n
found_in (Some n) (line ∷ lines) = None

-- the moment that is found, where one was found before
abbrev pub moment_found : Option Span → List HeaderSpan → Option (Option Span)
moment_found None headers = one_value headers
moment_found (Some span) [] = Some (Some span)
moment_found (Some span) (header ∷ headers) = None
