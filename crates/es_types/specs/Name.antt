-- Which texts are names, and which numbers are times.
use Rattle.std.specs.Prelude.{Bool, ℕ, ◌==◌, ◌&&◌, ◌||◌, not, nat_le, nat_lt, List, length, slice_index}
use Rattle.std.specs.List.{list_all}

-- a to z, or 0 to 9
abbrev pub is_lower_or_digit : ℕ → Bool
is_lower_or_digit b = (nat_le 97 b && nat_le b 122) || (nat_le 48 b && nat_le b 57)

-- also `_`, `-` and `.`
abbrev pub is_index_byte : ℕ → Bool
is_index_byte b = is_lower_or_digit b || (b == 95 || (b == 45 || b == 46))

-- 1 to 512 bytes
abbrev pub is_doc_id : List ℕ → Bool
is_doc_id text = nat_lt 0 (length text) && nat_le (length text) 512

-- 1 to 255 bytes of those, the first a letter or a digit
abbrev pub is_index_name : List ℕ → Bool
is_index_name text =
    nat_lt 0 (length text) && (nat_le (length text) 255
    && (is_lower_or_digit (slice_index text 0) && list_all is_index_byte text))

-- 1 to 255 bytes with no `.`, the first no `_`
abbrev pub is_field_name : List ℕ → Bool
is_field_name text =
    nat_lt 0 (length text) && (nat_le (length text) 255
    && (not (slice_index text 0 == 95) && list_all (λ b. not (b == 46)) text))
