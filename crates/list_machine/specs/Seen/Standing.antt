-- Whether a document stands after an operation.
use Rattle.std.specs.Prelude.{ℕ, Bool, not, ◌&&◌, ◌||◌, bytes_eq, List}
use Rattle.es_types.specs.declared.row.Op.{Op}
use Rattle.es_types.specs.declared.row.Op.TheVariants.{Put, Remove}

-- by whether it stood before
abbrev pub stands_after : Op → List ℕ → Bool → Bool
stands_after (Put put source values) id stood = bytes_eq put id || stood
stands_after (Remove removed) id stood = not (bytes_eq removed id) && stood
