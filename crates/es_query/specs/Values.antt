-- How two values compare.
use Rattle.std.specs.Prelude.{Bool, false, Option, Some, None}
use Rattle.std.specs.Cmp.Lexicographic.{slice_cmp}
use Rattle.std.specs.declared.cmp.Ordering.{Ordering}
use Rattle.std.specs.Ordering.{int_cmp, nat_cmp, is_eq, is_ge, is_gt, is_le, is_lt}
use Rattle.es_types.specs.declared.row.Value.{Value}
use Rattle.es_types.specs.declared.row.Value.TheVariants.{Key, Long, Missing}
use Rattle.es_query.specs.declared.query.Side.{Side}
use Rattle.es_query.specs.declared.query.Side.TheVariants.{Above, AtLeast, Below, AtMost}
use Rattle.es_query.specs.declared.query.Edge.{Edge}

-- how two values of one kind compare: texts by their bytes
abbrev pub compared : Value → Value → Option Ordering
compared (Key a) (Key b) = Some (slice_cmp nat_cmp a b)
compared (Key a) (Long b) = None
compared (Key a) Missing = None
compared (Long a) (Key b) = None
compared (Long a) (Long b) = Some (int_cmp a b)
compared (Long a) Missing = None
compared Missing b = None

-- whether they compare in such a way
abbrev pub is_so : (Ordering → Bool) → Option Ordering → Bool
is_so wanted None = false
is_so wanted (Some order) = wanted order

abbrev pub is_equal : Value → Value → Bool
is_equal wanted value = is_so is_eq (compared value wanted)

abbrev pub on_side : Side → Ordering → Bool
on_side Above order = is_gt order
on_side AtLeast order = is_ge order
on_side Below order = is_lt order
on_side AtMost order = is_le order

-- whether a value lies on the right side of an edge
abbrev pub meets : Value → Edge → Bool
meets value edge = is_so (on_side edge.side) (compared value edge.value)
