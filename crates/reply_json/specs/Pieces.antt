-- Texts put together.
use Rattle.std.specs.Prelude.{ℕ, Bool, if◌then◌else◌, List, [], ◌∷◌, ◌++◌}

-- the pieces, one after another
abbrev pub joined : List (List ℕ) → List ℕ
joined [] = []
joined (piece ∷ []) = piece
joined (piece ∷ next ∷ pieces) = piece ++ joined (next ∷ pieces)

-- what stands before an item of a list: nothing before the first one
abbrev pub comma_if : Bool → List ℕ
comma_if later = if later then 44 ∷ [] else []
