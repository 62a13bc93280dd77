-- Which operations are the last ones of their ids.
use Rattle.std.specs.Prelude.{◌≡◌, ℕ, Bool, not, bytes_eq, List, [], ◌∷◌}
use Rattle.std.specs.List.{list_any}
use Rattle.std.specs.BTreeSet.{contains_text}
use Rattle.es_types.specs.declared.row.Op.{Op}
use Rattle.list_machine.specs.declared.steps.written.Lasts.{Lasts}
use Rattle.list_machine.specs.State.{id_of}

-- whether an operation is of that id
abbrev pub is_written : List ℕ → List Op → Bool
is_written id ops = list_any (λ op. bytes_eq (id_of op) id) ops

-- for each operation, whether none after it is of its id
abbrev pub are_last : List Op → List Bool
are_last [] = []
are_last (op ∷ ops) = not (is_written (id_of op) ops) ∷ are_last ops

-- the ids of all operations, and which operations are the last ones of theirs
pub record AreLasts (ops : List Op) (lasts : Lasts) : Type 0 where
  pub ids : (id : List ℕ) → contains_text lasts.ids id ≡ is_written id ops
  pub last : lasts.last.items ≡ are_last ops
