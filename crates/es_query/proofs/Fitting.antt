-- The queries of a clause as a list, for whether they fit.
use Rattle.std.proofs.Common.{◌≡◌, Bool, ◌&&◌, List, refl, ap, ◌∙◌}
use Rattle.std.specs.List.{list_all}
use Rattle.es_types.specs.declared.mapping.Field.{Field}
use Rattle.es_query.specs.declared.query.Query as query
use Rattle.es_query.specs.declared.query.Query.{Query, Row_of-Query, end_of-Query, more_of-Query, items-the_row-Query, items_hidden-the_row-Query-0}
use Rattle.es_query.specs.Fits.{all_fit, fits}

four_same : (a a' b b' c c' d d' : Bool) → a ≡ a' → b ≡ b' → c ≡ c' → d ≡ d' → (a && (b && (c && d))) ≡ (a' && (b' && (c' && d')))
four_same a a' b b' c c' d d' p q r s = cc

module _ (mapping : List Field) where
  each_fits : (n : _) (row : Row_of-Query n) → all_fit mapping row ≡ list_all (fits mapping) (items-the_row-Query n row)
  each_fits n end_of-Query = refl
  each_fits n (more_of-Query one rest) = ap (λ rest. fits mapping one && rest) (each_fits _ rest)

  clause_fits : (queries : List Query) → all_fit mapping (query.TheBlock.hidden-the_row-Query-0 queries) ≡ list_all (fits mapping) queries
  clause_fits queries = each_fits _ (query.TheBlock.hidden-the_row-Query-0 queries) ∙ ap (list_all (fits mapping)) (items_hidden-the_row-Query-0 queries)

  pub fits_bool : (clauses : query.TheOpen.Bool-F Query (Unit {0})) → fits mapping (query.TheViews.Bool clauses) ≡ (list_all (fits mapping) clauses.must && (list_all (fits mapping) clauses.filter && (list_all (fits mapping) clauses.must_not && list_all (fits mapping) clauses.should)))
  fits_bool clauses = four_same
      (all_fit mapping (query.TheBlock.hidden-the_row-Query-0 clauses.must)) _
      (all_fit mapping (query.TheBlock.hidden-the_row-Query-0 clauses.filter)) _
      (all_fit mapping (query.TheBlock.hidden-the_row-Query-0 clauses.must_not)) _
      (all_fit mapping (query.TheBlock.hidden-the_row-Query-0 clauses.should)) _
      (clause_fits clauses.must) (clause_fits clauses.filter) (clause_fits clauses.must_not) (clause_fits clauses.should)
