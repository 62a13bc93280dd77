-- Which rows a query finds.
use Rattle.std.specs.Prelude.{Bool, true, false, List, [], ◌∷◌}
use Rattle.std.specs.List.{list_all, list_any}
use Rattle.es_types.specs.declared.mapping.Field.{Field}
use Rattle.es_types.specs.declared.row.Value.{Value}
use Rattle.es_types.specs.Values.{values_in}
use Rattle.es_query.specs.declared.query.Query.{Query, All, Nothing, Term, Range, Bool', Row_of-Query, end_of-Query, more_of-Query}
use Rattle.es_query.specs.Values.{is_equal, meets}
use Rattle.es_query.specs.Clauses.{holds}

-- Whether a row with these values matches.
abbrev mutual
  pub matches : List Field → List Value → Query → Bool
  matches mapping values All = true
  matches mapping values Nothing = false
  matches mapping values (Term field value) = list_any (is_equal value) (values_in mapping values field)
  matches mapping values (Range field edges) = list_any (λ value. list_all (meets value) edges) (values_in mapping values field)
  matches mapping values (Bool' a must b filter c must_not d should need) =
      holds need (match_each mapping values must) (match_each mapping values filter)
      (match_each mapping values must_not) (match_each mapping values should)

  pub match_each : {n : _} → List Field → List Value → Row_of-Query n → List Bool
  match_each mapping values end_of-Query = []
  match_each mapping values (more_of-Query query queries) = matches mapping values query ∷ match_each mapping values queries
