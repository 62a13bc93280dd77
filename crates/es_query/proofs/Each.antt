-- The queries of a clause as a list.
use Rattle.std.proofs.Common.{◌≡◌, Bool, true, false, cond, ◌+◌, ◌&&◌, not, nat_le, List, [], ◌∷◌, map, length, count_by, refl, ap, sym, ◌∙◌}
use Rattle.std.specs.List.{list_all, list_any}
use Rattle.std.proofs.lemmas.List.{length-map}
use Rattle.std.proofs.lemmas.List.Folds.{fold-map, list_all-map}
use Rattle.es_types.specs.declared.mapping.Field.{Field}
use Rattle.es_types.specs.declared.row.Value.{Value}
use Rattle.es_query.specs.declared.query.Need.{Need}
use Rattle.es_query.specs.declared.query.Query as query
use Rattle.es_query.specs.declared.query.Query.{Query, Row_of-Query, end_of-Query, more_of-Query, items-the_row-Query, items_hidden-the_row-Query-0}
use Rattle.es_query.specs.Clauses.{holds, it, needed}
use Rattle.es_query.specs.Matches.{matches, match_each}

-- what a bool query answers, by the lists that its clauses answer
holds_same : (need : Need) (a a' b b' c c' d d' : List Bool) → a ≡ a' → b ≡ b' → c ≡ c' → d ≡ d' → holds need a b c d ≡ holds need a' b' c' d'
holds_same need a a' b b' c c' d d' p q r s = rw (p, q, r, s)

module _ (mapping : List Field) (values : List Value) where
  each_matches : (n : _) (row : Row_of-Query n) → match_each mapping values row ≡ map (matches mapping values) (items-the_row-Query n row)
  each_matches n end_of-Query = refl
  each_matches n (more_of-Query one rest) = ap (λ answers. matches mapping values one ∷ answers) (each_matches _ rest)

  clause_matches : (queries : List Query) → match_each mapping values (query.TheBlock.hidden-the_row-Query-0 queries) ≡ map (matches mapping values) queries
  clause_matches queries = each_matches _ (query.TheBlock.hidden-the_row-Query-0 queries) ∙ ap (map (matches mapping values)) (items_hidden-the_row-Query-0 queries)

  pub matches_bool : (clauses : query.TheOpen.Bool-F Query (Unit {0})) → matches mapping values (query.TheViews.Bool clauses) ≡ holds clauses.need (map (matches mapping values) clauses.must) (map (matches mapping values) clauses.filter) (map (matches mapping values) clauses.must_not) (map (matches mapping values) clauses.should)
  matches_bool clauses = holds_same clauses.need
      (match_each mapping values (query.TheBlock.hidden-the_row-Query-0 clauses.must)) _
      (match_each mapping values (query.TheBlock.hidden-the_row-Query-0 clauses.filter)) _
      (match_each mapping values (query.TheBlock.hidden-the_row-Query-0 clauses.must_not)) _
      (match_each mapping values (query.TheBlock.hidden-the_row-Query-0 clauses.should)) _
      (clause_matches clauses.must) (clause_matches clauses.filter) (clause_matches clauses.must_not) (clause_matches clauses.should)

-- the same by what each query of a clause answers
module _ (f : Query → Bool) where
  pub any_each : (queries : List Query) → list_any it (map f queries) ≡ list_any f queries
  any_each [] = refl
  any_each (query ∷ queries) = rw (any_each queries)

  count_each : (queries : List Query) → count_by it (map f queries) ≡ count_by f queries
  count_each queries = fold-map (λ n answer. n + cond (it answer) 1 0) f 0 queries

  module _ (need : Need) (must filter must_not should : List Query) where
    abbrev answer : Bool
    answer = holds need (map f must) (map f filter) (map f must_not) (map f should)

    abbrev enough : Bool
    enough = nat_le (needed need (length must) (length filter) (length should)) (count_by f should)

    holds_each : answer ≡ (list_all f must && (list_all f filter && (not (list_any f must_not) && enough)))
    holds_each =
        rw (list_all-map it f must, list_all-map it f filter, any_each must_not, count_each should, length-map must f, length-map filter f, length-map should f)

    pub must_fails : list_all f must ≡ false → false ≡ answer
    must_fails fails = sym (holds_each ∙ rw fails)

    pub filter_fails : list_all f must ≡ true → list_all f filter ≡ false → false ≡ answer
    filter_fails all fails = sym (holds_each ∙ rw (all, fails))

    pub must_not_fails : list_all f must ≡ true → list_all f filter ≡ true → list_any f must_not ≡ true → false ≡ answer
    must_not_fails all too found = sym (holds_each ∙ rw (all, too, found))

    pub should_decides : list_all f must ≡ true → list_all f filter ≡ true → list_any f must_not ≡ false → enough ≡ answer
    should_decides all too none = sym (holds_each ∙ rw (all, too, none))
