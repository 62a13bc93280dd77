-- The queries of a clause as a list, for what the bounds rule out.
use Rattle.std.proofs.Common.{◌≡◌, Bool, true, false, cond, ◌+◌, ◌||◌, not, nat_lt, List, ◌∷◌, map, length, count_by, refl, ap, sym, ◌∙◌}
use Rattle.std.specs.List.{list_any}
use Rattle.std.proofs.lemmas.List.{length-map}
use Rattle.std.proofs.lemmas.List.Folds.{fold-map}
use Rattle.es_types.specs.declared.bounds.Bound.{Bound}
use Rattle.es_types.specs.declared.mapping.Field.{Field}
use Rattle.es_query.specs.declared.query.Need.{Need}
use Rattle.es_query.specs.declared.query.Query as query
use Rattle.es_query.specs.declared.query.Query.{Query, Row_of-Query, end_of-Query, more_of-Query, items-the_row-Query, items_hidden-the_row-Query-0}
use Rattle.es_query.specs.Clauses.{needed}
use Rattle.es_query.specs.Excluded.{bool_excluded, rule_each, ruled_out}
use Rattle.es_query.proofs.Each.{any_each}

bool_same : (need : Need) (a a' b b' c c' : List Bool) → a ≡ a' → b ≡ b' → c ≡ c' → bool_excluded need a b c ≡ bool_excluded need a' b' c'
bool_same need a a' b b' c c' p q r = rw (p, q, r)

module _ (mapping : List Field) (bounds : List Bound) where
  each_rules : (n : _) (row : Row_of-Query n) → rule_each mapping bounds row ≡ map (ruled_out mapping bounds) (items-the_row-Query n row)
  each_rules n end_of-Query = refl
  each_rules n (more_of-Query one rest) = ap (λ answers. ruled_out mapping bounds one ∷ answers) (each_rules _ rest)

  clause_rules : (queries : List Query) → rule_each mapping bounds (query.TheBlock.hidden-the_row-Query-0 queries) ≡ map (ruled_out mapping bounds) queries
  clause_rules queries = each_rules _ (query.TheBlock.hidden-the_row-Query-0 queries) ∙ ap (map (ruled_out mapping bounds)) (items_hidden-the_row-Query-0 queries)

  pub ruled_out_bool : (clauses : query.TheOpen.Bool-F Query (Unit {0})) → ruled_out mapping bounds (query.TheViews.Bool clauses) ≡ bool_excluded clauses.need (map (ruled_out mapping bounds) clauses.must) (map (ruled_out mapping bounds) clauses.filter) (map (ruled_out mapping bounds) clauses.should)
  ruled_out_bool clauses = bool_same clauses.need
      (rule_each mapping bounds (query.TheBlock.hidden-the_row-Query-0 clauses.must)) _
      (rule_each mapping bounds (query.TheBlock.hidden-the_row-Query-0 clauses.filter)) _
      (rule_each mapping bounds (query.TheBlock.hidden-the_row-Query-0 clauses.should)) _
      (clause_rules clauses.must) (clause_rules clauses.filter) (clause_rules clauses.should)

module _ (f : Query → Bool) where
  left_each : (queries : List Query) → count_by not (map f queries) ≡ count_by (λ query. not (f query)) queries
  left_each queries = fold-map (λ n answer. n + cond (not answer) 1 0) f 0 queries

  module _ (need : Need) (must filter should : List Query) where
    abbrev answer : Bool
    answer = bool_excluded need (map f must) (map f filter) (map f should)

    abbrev too_few : Bool
    too_few = nat_lt (count_by (λ query. not (f query)) should) (needed need (length must) (length filter) (length should))

    excluded_each : answer ≡ (list_any f must || (list_any f filter || too_few))
    excluded_each = rw (any_each f must, any_each f filter, left_each should, length-map must f, length-map filter f, length-map should f)

    -- each of the three reasons
    pub must_ruled_out : list_any f must ≡ true → true ≡ answer
    must_ruled_out found = sym (excluded_each ∙ rw found)

    pub filter_ruled_out : list_any f must ≡ false → list_any f filter ≡ true → true ≡ answer
    filter_ruled_out none found = sym (excluded_each ∙ rw (none, found))

    pub should_rules_out : list_any f must ≡ false → list_any f filter ≡ false → too_few ≡ answer
    should_rules_out none neither = sym (excluded_each ∙ rw (none, neither))
