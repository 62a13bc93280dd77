-- Which queries no row within some bounds matches.
use Rattle.std.specs.Prelude.{Bool, true, false, not, ℕ, ◌||◌, ◌==◌, bytes_eq, nat_lt, if◌then◌else◌, List, [], ◌∷◌, length, count_by}
use Rattle.std.specs.List.{list_any}
use Rattle.std.specs.Ordering.{is_gt, is_lt}
use Rattle.es_types.specs.declared.bounds.Bound.{Bound}
use Rattle.es_types.specs.declared.bounds.Bound.TheVariants as bound
use Rattle.es_types.specs.declared.bounds.Bounds.{Bounds}
use Rattle.es_types.specs.declared.mapping.Field.{Field}
use Rattle.es_types.specs.declared.row.Value.{Value}
use Rattle.es_types.specs.declared.row.Value.TheVariants.{Key, Long}
use Rattle.es_query.specs.declared.query.Edge.{Edge}
use Rattle.es_query.specs.declared.query.Need.{Need}
use Rattle.es_query.specs.declared.query.Side.{Side}
use Rattle.es_query.specs.declared.query.Side.TheVariants.{Above, AtLeast, Below, AtMost}
use Rattle.es_query.specs.declared.query.Query.{Query, All, Nothing, Term, Range, Bool', Row_of-Query, end_of-Query, more_of-Query}
use Rattle.es_query.specs.Values.{compared, is_so, meets}
use Rattle.es_query.specs.Clauses.{it, needed}

-- the bound of a field: no values where it isn't mapped
abbrev pub bound_in : List Field → List Bound → List ℕ → Bound
bound_in [] bounds name = bound.Nothing
bound_in (field ∷ fields) [] name = bound.Nothing
bound_in (field ∷ fields) (first ∷ bounds) name = if bytes_eq field.name name then first else bound_in fields bounds name

-- a value below the least or above the greatest one
abbrev pub is_outside : Value → Value → Value → Bool
is_outside value least greatest = is_so is_lt (compared value least) || is_so is_gt (compared value greatest)

-- the one of a least and a greatest that lies furthest to a side
abbrev pub furthest : {A : Type 0} → Side → A → A → A
furthest Above least greatest = greatest
furthest AtLeast least greatest = greatest
furthest Below least greatest = least
furthest AtMost least greatest = least

-- an edge that even the furthest value to its side does not meet
abbrev pub is_beyond : Value → Value → Edge → Bool
is_beyond least greatest edge = not (meets (furthest edge.side least greatest) edge)

abbrev pub term_excluded : Value → Bound → Bool
term_excluded value bound.Nothing = true
term_excluded value (bound.Keys least greatest) = is_outside value (Key least) (Key greatest)
term_excluded value (bound.Longs least greatest) = is_outside value (Long least) (Long greatest)

abbrev pub range_excluded : List Edge → Bound → Bool
range_excluded edges bound.Nothing = true
range_excluded edges (bound.Keys least greatest) = list_any (is_beyond (Key least) (Key greatest)) edges
range_excluded edges (bound.Longs least greatest) = list_any (is_beyond (Long least) (Long greatest)) edges

-- a bool query of which a clause that has to match is excluded, or too many of `should`
abbrev pub bool_excluded : Need → List Bool → List Bool → List Bool → Bool
bool_excluded need must filter should =
    list_any it must || (list_any it filter
    || nat_lt (count_by not should) (needed need (length must) (length filter) (length should)))

-- whether the bounds of the fields exclude a query
abbrev mutual
  pub ruled_out : List Field → List Bound → Query → Bool
  ruled_out mapping bounds All = false
  ruled_out mapping bounds Nothing = true
  ruled_out mapping bounds (Term field value) = term_excluded value (bound_in mapping bounds field)
  ruled_out mapping bounds (Range field edges) = range_excluded edges (bound_in mapping bounds field)
  ruled_out mapping bounds (Bool' a must b filter c must_not d should need) =
      bool_excluded need (rule_each mapping bounds must) (rule_each mapping bounds filter) (rule_each mapping bounds should)

  pub rule_each : {n : _} → List Field → List Bound → Row_of-Query n → List Bool
  rule_each mapping bounds end_of-Query = []
  rule_each mapping bounds (more_of-Query query queries) = ruled_out mapping bounds query ∷ rule_each mapping bounds queries

-- whether the bounds of some rows exclude a query: always where there are no rows
abbrev pub excluded : List Field → Bounds → Query → Bool
excluded mapping bounds query = bounds.rows == 0 || ruled_out mapping bounds.fields query
