-- Which names header lines have, by the name alone.
use Rattle.std.specs.Prelude.{Bool, ℕ, List, codes}
use Rattle.std.specs.List.{list_any}
use Rattle.std.specs.Str.{str_eq_ignore_ascii_case}
use Rattle.http_wire.specs.Heads.{known_names}

abbrev pub is_known_name : List ℕ → Bool
is_known_name name = list_any (str_eq_ignore_ascii_case name) known_names

abbrev pub is_length_name : List ℕ → Bool
is_length_name name = str_eq_ignore_ascii_case name (codes "content-length")

abbrev pub is_moment_name : List ℕ → Bool
is_moment_name name = str_eq_ignore_ascii_case name (codes "x-moment")
