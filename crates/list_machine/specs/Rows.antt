-- The rows of a shard, and what its operations make of them.
use Rattle.std.specs.Prelude.{ℕ, ◌+◌, ◌-◌, Bool, not, bytes_eq, nat_le, if◌then◌else◌, List, [], ◌∷◌, ◌++◌, length, take, drop, filter}
use Rattle.std.specs.List.{list_any}
use Rattle.es_types.specs.declared.row.Row.{Row}
use Rattle.es_types.specs.declared.row.Op.{Op}
use Rattle.es_types.specs.declared.row.Op.TheVariants.{Put, Remove}

-- the rows without that id, in order
abbrev pub without : List ℕ → List Row → List Row
without id rows = filter (λ row. not (bytes_eq row.id id)) rows

-- whether a row has that id
abbrev pub has_id : List ℕ → List Row → Bool
has_id id rows = list_any (λ row. bytes_eq row.id id) rows

-- the rows after the operation of that number: a put's row stands at the end
abbrev pub apply : List Row → ℕ → Op → List Row
apply rows number (Put id source values) = without id rows ++ record { seq = number; id = id; source = source; values = values } ∷ []
apply rows number (Remove id) = without id rows

-- the rows after operations that are numbered from base + 1 on
abbrev pub apply_all : List Row → ℕ → List Op → List Row
apply_all rows base [] = rows
apply_all rows base (op ∷ ops) = apply_all (apply rows (base + 1) op) (base + 1) ops

-- A shard: how many of its operations were applied, the rows that a search sees, and the operations that
-- wait, which are numbered from base + 1 on.
pub record Shard : Type 0 where
  pub base : ℕ
  pub rows : List Row
  pub pending : List Op

-- the number of the last operation
abbrev pub last_number : Shard → ℕ
last_number shard = shard.base + length shard.pending

-- the shard after the operations up to number upto were applied; one that was reached before changes nothing
abbrev pub publish : Shard → ℕ → Shard
publish shard upto =
    if nat_le upto shard.base
    then shard
    else record {
      base = upto;
      rows = apply_all shard.rows shard.base (take (upto - shard.base) shard.pending);
      pending = drop (upto - shard.base) shard.pending;
    }

-- the rows as they will be once all operations are applied
abbrev pub rows_to_come : Shard → List Row
rows_to_come shard = apply_all shard.rows shard.base shard.pending
