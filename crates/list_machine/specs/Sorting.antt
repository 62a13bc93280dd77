-- Lists in order.
use Rattle.std.specs.Prelude.{Bool, if◌then◌else◌, List, [], ◌∷◌}

-- one more element, in front of the first that it comes before
abbrev pub put_in : {X : Type 0} → (X → X → Bool) → X → List X → List X
put_in before x [] = x ∷ []
put_in before x (y ∷ ys) = if before x y then x ∷ y ∷ ys else y ∷ put_in before x ys

-- the same elements in order: where `before` is a strict total order of them, each after those that come before it
abbrev pub in_order : {X : Type 0} → (X → X → Bool) → List X → List X
in_order before [] = []
in_order before (x ∷ xs) = put_in before x (in_order before xs)
