-- The number of a time, which is read only as far as it can matter.
use Rattle.std.proofs.Common.{◌≡◌, ℕ, ◌+◌, ◌-◌, ◌*◌, ◌≤◌, ◌<◌, min, true, false, List, length, take, get_or, arith}
use Rattle.std.specs.Char.{digit_value, is_ascii_digit}
use Rattle.std.specs.Str.Parse.{digits_value}
use Rattle.std.proofs.lemmas.Grind.{common_steps}
use Rattle.std.proofs.lemmas.Int.Digits.{digits_value_more}
use Rattle.std.proofs.lemmas.List.Sums.{prefix_len_is}
use Rattle.es_types.specs.Times.{digits_in}

-- how many digits there are, where all of them are and what follows is none
pub counted : (text : List ℕ) (i : ℕ) → i ≤ length text → ((k : ℕ) → k < i → is_ascii_digit (get_or text k 0) ≡ true)
    → (i < length text → is_ascii_digit (get_or text i 0) ≡ false) → digits_in text ≡ i
counted text i within digits stops = prefix_len_is is_ascii_digit text i 0 within digits stops

-- what a digit is worth
digit_worth : (b : ℕ) → is_ascii_digit b ≡ true → digit_value b ≡ b - 48
digit_worth b is = grind (arith, common_steps)

-- one digit more, where the number stops at one above the longest time
pub one_digit_more : (text : List ℕ) (i number : ℕ) → i < length text → is_ascii_digit (get_or text i 0) ≡ true
    → number ≡ min (digits_value 10 (take i text)) 864000001
    → min (number * 10 + (get_or text i 0 - 48)) 864000001 ≡ min (digits_value 10 (take (i + 1) text)) 864000001
one_digit_more text i number within is so_far =
    let more = digits_value_more 10 text i within in
    let worth = digit_worth (get_or text i 0) is in
    omega arith
