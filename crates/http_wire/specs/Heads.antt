-- The head of a request (RFC 9112), in the profile that is built so far, over the grammar of `httparse`.
use Rattle.std.specs.Prelude.{◌≡◌, ℕ, ◌+◌, ◌≤◌, ◌==◌, ◌&&◌, Bool, not, nat_lt, nat_le, if◌then◌else◌, List, [], ◌∷◌, length, drop, map, filter, slice_index, take_while, Option, Some, None, option_map, codes, IsTrue}
use Rattle.std.specs.List.{list_all, list_any, starts_with}
use Rattle.std.specs.Char.{is_ascii_digit}
use Rattle.std.specs.Str.{str_eq_ignore_ascii_case}
use Rattle.std.specs.Str.Parse.{digits_value}
use Rattle.es_types.specs.declared.limits.TheConstants.{BODY_BYTES}
use Rattle.httparse.specs.Grammar.{RequestHead, ReadsRequest}
use Rattle.httparse.specs.Spans.{name_and_value}

-- a line end and an empty line
abbrev pub head_end : List ℕ
head_end = 13 ∷ 10 ∷ 13 ∷ 10 ∷ []

-- how many bytes come up to and including the first empty line
abbrev pub head_len : List ℕ → Option ℕ
head_len [] = None
head_len (b ∷ bytes) = if starts_with (λ x y. x == y) (b ∷ bytes) head_end then Some 4 else option_map (λ n. n + 1) (head_len bytes)

-- the names of the header lines that are known
abbrev pub known_names : List (List ℕ)
known_names = codes "host" ∷ codes "user-agent" ∷ codes "accept" ∷ codes "content-type" ∷ codes "content-length" ∷ codes "x-moment" ∷ []

abbrev pub is_known : List ℕ × List ℕ → Bool
is_known line = list_any (str_eq_ignore_ascii_case line.0) known_names

abbrev pub is_length : List ℕ × List ℕ → Bool
is_length line = str_eq_ignore_ascii_case line.0 (codes "content-length")

abbrev pub is_moment : List ℕ × List ℕ → Bool
is_moment line = str_eq_ignore_ascii_case line.0 (codes "x-moment")

-- the number of 1 to so many digits, where it is at most the limit
abbrev pub number_of : ℕ → ℕ → List ℕ → Option ℕ
number_of most limit digits =
    if nat_lt 0 (length digits) && (nat_le (length digits) most && (list_all is_ascii_digit digits && nat_le (digits_value 10 digits) limit))
    then Some (digits_value 10 digits)
    else None

-- the length that these lines of that name give, in at most 18 digits: none is a body without bytes, and more than one is none
abbrev pub length_of : List (List ℕ × List ℕ) → Option ℕ
length_of [] = Some 0
length_of (line ∷ []) = number_of 18 BODY_BYTES line.1
length_of (line ∷ other ∷ lines) = None

-- what these lines of that name hand in, as it is sent: none is no moment, and more than one is no head. The grammar's values have
-- no spaces and tabs at their ends.
abbrev pub moment_of : List (List ℕ × List ℕ) → Option (Option (List ℕ))
moment_of [] = Some None
moment_of (line ∷ []) = Some (Some line.1)
moment_of (line ∷ other ∷ lines) = None

abbrev pub is_mark : ℕ → Bool
is_mark b = b == 63

-- the target up to its first `?`, and what follows that
abbrev pub path_of : List ℕ → List ℕ
path_of target = take_while (λ b. not (is_mark b)) target

abbrev pub query_of : List ℕ → List ℕ
query_of target = drop (length (path_of target) + 1) target

-- what a head says: the method, the target, the moment that it hands in, and the length of the body
pub record Head : Type 0 where
  pub method : List ℕ
  pub target : List ℕ
  pub moment : Option (List ℕ)
  pub body : ℕ

-- These bytes are one whole head that is taken, and it says this: HTTP/1.1, at most 100 header lines of known
-- names, a target that begins with `/`, at most one moment, and at most one length.
pub record IsHead (bytes : List ℕ) (head : Head) : Type 0 where
  pub grammar : RequestHead
  pub reads : ReadsRequest bytes grammar []
  pub few : length grammar.fields ≤ 100
  pub version : grammar.minor ≡ 1
  pub method : head.method ≡ grammar.method
  pub target : head.target ≡ grammar.target
  pub slash : slice_index grammar.target 0 ≡ 47
  pub known : IsTrue (list_all is_known (map name_and_value grammar.fields))
  pub moment : moment_of (filter is_moment (map name_and_value grammar.fields)) ≡ Some head.moment
  pub body : length_of (filter is_length (map name_and_value grammar.fields)) ≡ Some head.body
