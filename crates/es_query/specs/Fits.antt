-- Which queries fit a mapping.
use Rattle.std.specs.Prelude.{Bool, true, ◌&&◌, List, Option, Some, None}
use Rattle.std.specs.List.{list_all}
use Rattle.es_types.specs.declared.mapping.Field.{Field}
use Rattle.es_types.specs.declared.mapping.FieldKind.{FieldKind}
use Rattle.es_types.specs.declared.row.Value.{Value}
use Rattle.es_types.specs.Values.{is_kind, kind_in}
use Rattle.es_query.specs.declared.query.Query.{Query, All, Nothing, Term, Range, Bool', Row_of-Query, end_of-Query, more_of-Query}

-- whether a value is of that kind; a field that isn't mapped takes each
abbrev pub suits : Option FieldKind → Value → Bool
suits None value = true
suits (Some kind) value = is_kind kind value

-- whether each value of the query is of its field's kind
abbrev mutual
  pub fits : List Field → Query → Bool
  fits mapping All = true
  fits mapping Nothing = true
  fits mapping (Term field value) = suits (kind_in mapping field) value
  fits mapping (Range field edges) = list_all (λ edge. suits (kind_in mapping field) edge.value) edges
  fits mapping (Bool' a must b filter c must_not d should need) =
      all_fit mapping must && (all_fit mapping filter && (all_fit mapping must_not && all_fit mapping should))

  pub all_fit : {n : _} → List Field → Row_of-Query n → Bool
  all_fit mapping end_of-Query = true
  all_fit mapping (more_of-Query query queries) = fits mapping query && all_fit mapping queries
