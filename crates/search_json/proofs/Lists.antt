-- Lists that are read item by item, some of them not at all.
use Rattle.std.proofs.Common.{List, ◌++◌, Option, option_map}

-- a list that goes on with the rest, where there is one
abbrev pub onto : {A : Type 0} → List A → Option (List A) → Option (List A)
onto found rest = option_map (λ more. found ++ more) rest
