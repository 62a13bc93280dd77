-- What terms and the edges of ranges say, in the words of Elasticsearch's reference, "Term query" and "Range query": any text
-- names a field.
use Rattle.std.specs.Prelude.{ℕ, ◌^◌, nat_lt, bytes_eq, if◌then◌else◌, List, [], ◌∷◌, is_some, Option, Some, None, option_map, option_and_then, codes}
use Rattle.serde_json.specs.Data.{Data, null, boolean, number, string, array, object, Members, no_members, member}
use Rattle.serde_json.specs.Find.{as_i64, as_null, as_number, as_object, as_u64}
use Rattle.es_types.specs.declared.row.Value.{Value}
use Rattle.es_types.specs.declared.row.Value.TheVariants.{Key, Long}
use Rattle.es_query.specs.declared.query.Edge.{Edge}
use Rattle.es_query.specs.declared.query.Query.{Query, Term, Range}
use Rattle.es_query.specs.declared.query.Side.{Side}
use Rattle.es_query.specs.declared.query.Side.TheVariants.{Above, AtLeast, Below, AtMost}

-- the name and the value of the only member
abbrev pub only : Members → Option (List ℕ × Data)
only no_members = None
only (member name value no_members) = Some (name, value)
only (member name value (member next other rest)) = None

-- those of an object that has one member
abbrev pub only_of : Data → Option (List ℕ × Data)
only_of value = option_and_then only (as_object value)

-- a whole number of 0 to 2^31 - 1, which JSON writes without a point, an exponent or a sign
abbrev pub small_of : Data → Option ℕ
small_of value = option_and_then (λ n. if nat_lt n (2 ^ 31) then Some n else None) (option_and_then as_u64 (as_number value))

-- a text, or a whole number of 64 bits with a sign
abbrev pub value_of : Data → Option Value
value_of null = None
value_of (boolean b) = None
value_of (number n) = option_map Long (as_i64 n)
value_of (string text) = Some (Key text)
value_of (array items) = None
value_of (object fields) = None

-- ---- terms

-- the value of a member that is called `value`
abbrev pub value_at : List ℕ × Data → Option Value
value_at pair = if bytes_eq pair.0 (codes "value") then value_of pair.1 else None

abbrev pub wanted_by : Option Members → Data → Option Value
wanted_by None value = value_of value
wanted_by (Some members) value = option_and_then value_at (only members)

-- the value that a term wants, plain or as `{"value": ..}`
unfoldable pub wanted : Data → Option Value
wanted value = wanted_by (as_object value) value

abbrev pub term_at : List ℕ × Data → Option Query
term_at pair = option_map (Term pair.0) (wanted pair.1)

-- a field with the value that it shall have
unfoldable pub term_of : Data → Option Query
term_of value = option_and_then term_at (only_of value)

-- ---- ranges

abbrev pub side_of : List ℕ → Option Side
side_of name =
    if bytes_eq name (codes "gt") then Some Above
    else (if bytes_eq name (codes "gte") then Some AtLeast
    else (if bytes_eq name (codes "lt") then Some Below
    else (if bytes_eq name (codes "lte") then Some AtMost else None)))

abbrev pub edge_by : Side → Value → Edge
edge_by side value = record { side = side; value = value }

-- an edge at a null is left out
abbrev pub edge_on : Data → Side → Option (Option Edge)
edge_on value side = if is_some (as_null value) then Some None else option_map (λ v. Some (edge_by side v)) (value_of value)

unfoldable pub edge_of : List ℕ → Data → Option (Option Edge)
edge_of name value = option_and_then (edge_on value) (side_of name)

abbrev pub with_edge : Option Edge → List Edge → List Edge
with_edge None edges = edges
with_edge (Some edge) edges = edge ∷ edges

-- the edges, in the order of the members, which is that of their names
abbrev pub edges_in : Members → Option (List Edge)
edges_in no_members = Some []
edges_in (member name value rest) = option_and_then (λ edge. option_map (with_edge edge) (edges_in rest)) (edge_of name value)

abbrev pub range_at : List ℕ × Data → Option Query
range_at pair = option_map (Range pair.0) (option_and_then edges_in (as_object pair.1))

-- a field with the edges that its value shall keep to
unfoldable pub range_of : Data → Option Query
range_of value = option_and_then range_at (only_of value)
