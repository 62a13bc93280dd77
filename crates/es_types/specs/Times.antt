-- How long a text says that something is kept: digits and a unit (Elasticsearch's reference, "Time units"), or `0` alone.
use Rattle.std.specs.Prelude.{ℕ, ◌*◌, nat_le, nat_lt, bytes_eq, codes, if◌then◌else◌, List, take, drop, Option, Some, None}
use Rattle.std.specs.Char.{is_ascii_digit}
use Rattle.std.specs.List.{prefix_len}
use Rattle.std.specs.Str.Parse.{digits_value}
use Rattle.es_types.specs.declared.limits.TheConstants.{LONGEST_KEEP}

-- the milliseconds of a unit
abbrev pub unit_millis : List ℕ → Option ℕ
unit_millis unit =
    if bytes_eq unit (codes "d") then Some 86400000 else
    (if bytes_eq unit (codes "h") then Some 3600000 else
    (if bytes_eq unit (codes "m") then Some 60000 else
    (if bytes_eq unit (codes "s") then Some 1000 else
    (if bytes_eq unit (codes "ms") then Some 1 else None))))

-- so many of a unit, where they are at most the longest time
abbrev pub keep_with : ℕ → Option ℕ → Option ℕ
keep_with number None = None
keep_with number (Some unit) = if nat_le (number * unit) LONGEST_KEEP then Some (number * unit) else None

-- how many digits a text begins with
abbrev pub digits_in : List ℕ → ℕ
digits_in text = prefix_len is_ascii_digit text

-- the milliseconds that a text says
unfoldable pub keep_of : List ℕ → Option ℕ
keep_of text =
    if bytes_eq text (codes "0") then Some 0 else
    (if nat_lt 0 (digits_in text)
    then keep_with (digits_value 10 (take (digits_in text) text)) (unit_millis (drop (digits_in text) text))
    else None)
