-- What `parse` gives on decimal digits.
use Rattle.std.proofs.Common.{◌≡◌, ℕ, ◌<◌, ◌^◌, Bool, true, false, cond, eqb, List, [], ◌∷◌, length, Result, Ok, Err, None, refl, arith, rules}
use Rattle.std.specs.Char.{is_ascii_digit}
use Rattle.std.specs.List.{list_all}
use Rattle.std.specs.Prelude.{option_and_then}
use Rattle.std.specs.Result.{result_ok}
use Rattle.std.specs.Str.Parse.{digits_value, ParsesUnsigned}
use Rattle.std.proofs.lemmas.Bool.Decides.{nat_tests}
use Rattle.std.proofs.lemmas.Str.Parse.{IsNumeralModel, numerals_by_value, parse_digits}
use Rattle.doc_json.specs.Indexes.{is_numeral, small, whole_in}

-- the digits are told apart as `parse` does
digits : IsNumeralModel (λ ds. list_all is_ascii_digit ds ≡ true) (digits_value 10)
digits = numerals_by_value (λ ds. list_all is_ascii_digit ds ≡ true) (search rules)

digits_by : (first : ℕ) (rest : List ℕ) (zero : Bool) → eqb first 48 ≡ zero → cond zero (eqb (length rest) 0) (list_all is_ascii_digit (first ∷ rest)) ≡ true → list_all is_ascii_digit (first ∷ rest) ≡ true
digits_by first [] true zero is = grind (arith, nat_tests)
digits_by first (next ∷ rest) true zero is = grind (arith, nat_tests)
digits_by first rest false zero is = is

all_digits : (text : List ℕ) → is_numeral text ≡ true → (list_all is_ascii_digit text ≡ true) × (0 < length text)
all_digits [] is = cc
all_digits (first ∷ rest) is = (digits_by first rest _ refl is, omega arith)

not_small : (n : ℕ) → (n < 2 ^ 64 → ⊥) → small n ≡ None
not_small n large = grind (arith, nat_tests)

-- a numeral that is read is the number, and one that isn't is too large
pub numeral_read : {E : Type 0} (text : List ℕ) (read : Result ℕ E) → is_numeral text ≡ true → ParsesUnsigned 64 10 text read → whole_in text ≡ option_and_then small (result_ok read)
unfolding whole_in
numeral_read {E} text (Ok n) is parses =
    let found = parse_digits digits {E = E} 64 text (Ok n) parses (all_digits text is).0 in
    rw (is, found.1)
numeral_read {E} text (Err e) is parses =
    let found = parse_digits digits {E = E} 64 text (Err e) parses (all_digits text is).0 in
    rw is (not_small (digits_value 10 text) (λ fits. found ((all_digits text is).1, fits)))
