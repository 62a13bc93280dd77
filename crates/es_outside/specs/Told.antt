-- What a call to the outside tells of the bytes, the faults and the moments.
use Rattle.std.specs.Prelude.{◌≡◌, ◌⊎◌, ℕ, ◌<◌, ◌≤◌, ◌++◌, List, [], length, take, drop, Option, Some, None, unwrap_or}

-- the greatest number that a count of faults holds; once there it stays
abbrev pub last_count : ℕ
last_count = 18446744073709551615

-- the count of faults rose, or stands at its end
abbrev pub Rose : ℕ → ℕ → Type 0
Rose old new = (old < new) ⊎ (last_count ≤ new)

-- the first count bytes of the room are the first of those that were left, and none come only where none were left
pub record Read (bytes : List ℕ) (after : Option (List ℕ)) (room : List ℕ) (count : ℕ) : Type 0 where
  pub enough : count ≤ length bytes
  pub same : take count room ≡ take count bytes
  pub left : after ≡ Some (drop count bytes)
  pub end : count ≡ 0 → bytes ≡ []

-- what a read tells, where it is told what was left
abbrev pub Gives : Option (List ℕ) → Option (List ℕ) → List ℕ → ℕ → Type 0
Gives None after room count = Unit {0}
Gives (Some bytes) after room count = Read bytes after room count

-- the first count bytes of the piece stand after what was written, where that is told
abbrev pub Takes : Option (List ℕ) → Option (List ℕ) → List ℕ → ℕ → Type 0
Takes None after piece count = Unit {0}
Takes (Some written) after piece count = after ≡ Some (written ++ take count piece)

-- the answer is the moment that was told, or the last answer where none was, and is the last answer from then on
abbrev pub Answers : Option ℕ → Option ℕ → Option ℕ → ℕ → Type 0
Answers None after told answer = Unit {0}
Answers (Some last) after told answer = (answer ≡ unwrap_or told last) × (after ≡ Some answer)
