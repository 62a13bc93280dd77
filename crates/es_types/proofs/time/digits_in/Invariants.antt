-- All so far are digits, and the number is theirs, or the cap.
use Rattle.std.proofs.Common.{◌≡◌, ℕ, ◌<◌, min, take, get_or, true}
use Rattle.std.specs.Char.{is_ascii_digit}
use Rattle.std.specs.Str.Parse.{digits_value}
use Rattle.es_types.proofs.time.digits_in.Given as goal

abbrev pub invariant-loop-i : goal.invariant-loop-i
invariant-loop-i l = record {
  number : l.number ≡ min (digits_value 10 (take l.i l.text)) 864000001;
  digits : (k : ℕ) → k < l.i → is_ascii_digit (get_or l.text k 0) ≡ true;
}
