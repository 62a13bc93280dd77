-- What the bounds rule out finds no row within them.
use Rattle.std.proofs.Common.{◌≡◌, ℕ, ◌≤◌, ℤ, Bool, true, false, not, ◌&&◌, ◌||◌, ◌==◌, suc, cond, nat_le, nat_lt, List, [], ◌∷◌, length, get_or, count_by, refl, sym, ap, ◌∙◌, arith}
use Rattle.std.specs.List.{All, list_all, list_any}
use Rattle.std.specs.Ordering.{int_cmp}
use Rattle.std.proofs.lemmas.Bool.Decides.{nat_tests}
use Rattle.std.proofs.lemmas.Cmp.{int_cmp_total, nat_list_cmp_total}
use Rattle.std.proofs.lemmas.List.Sums.{sum_by-cons}
use Rattle.es_types.specs.declared.bounds.Bound.{Bound}
use Rattle.es_types.specs.declared.bounds.Bound.TheVariants.{Nothing, Keys, Longs}
use Rattle.es_types.specs.declared.mapping.Field.{Field}
use Rattle.es_types.specs.declared.row.Row.{Row}
use Rattle.es_types.specs.declared.row.Value.{Value}
use Rattle.es_types.specs.declared.row.Value.TheVariants.{Key, Long, Missing}
use Rattle.es_types.specs.Values.{values_in}
use Rattle.es_query.specs.declared.query.Edge.{Edge}
use Rattle.es_query.specs.declared.query.Need.{Need}
use Rattle.es_query.specs.declared.query.Side.{Side}
use Rattle.es_query.specs.declared.query.Side.TheVariants.{Above, AtLeast, Below, AtMost}
use Rattle.es_query.specs.declared.query.Query as query
use Rattle.es_query.specs.declared.query.Query.{Query, Row_of-Query, end_of-Query, more_of-Query}
use Rattle.es_query.specs.Clauses.{holds, it, needed}
use Rattle.es_query.specs.Excluded.{bool_excluded, bound_in, excluded, furthest, is_beyond, range_excluded, rule_each, ruled_out, term_excluded}
use Rattle.es_query.specs.Limits.{bounds_of}
use Rattle.es_query.specs.Matches.{match_each, matches}
use Rattle.es_query.specs.Values.{compared, is_equal, is_so, meets, on_side}
use Rattle.es_query.proofs.Orders.{beyond_fails, outside_differs}
use Rattle.es_query.proofs.Within.{AreWithin, IsWithin, by_bytes, row_within}

-- a value outside the bound is equal to none within it
term_misses : (wanted value : Value) (bound : Bound) → IsWithin value bound → term_excluded wanted bound ≡ true → is_equal wanted value ≡ false
term_misses wanted Missing bound within is = absurd within
term_misses wanted (Key text) Nothing within is = absurd within
term_misses wanted (Key text) (Longs least greatest) within is = absurd within
term_misses wanted (Long number) Nothing within is = absurd within
term_misses wanted (Long number) (Keys least greatest) within is = absurd within
term_misses (Key wanted) (Key text) (Keys least greatest) within is = outside_differs by_bytes nat_list_cmp_total least text greatest within.0 within.1 wanted is
term_misses (Long wanted) (Key text) (Keys least greatest) within is = refl
term_misses Missing (Key text) (Keys least greatest) within is = refl
term_misses (Key wanted) (Long number) (Longs least greatest) within is = refl
term_misses (Long wanted) (Long number) (Longs least greatest) within is = outside_differs int_cmp int_cmp_total least number greatest within.0 within.1 wanted is
term_misses Missing (Long number) (Longs least greatest) within is = refl

-- an edge beyond the bound is met by none within it
key_misses : (side : Side) (edge : Value) (text least greatest : List ℕ) → IsWithin (Key text) (Keys least greatest) → not (is_so (on_side side) (compared (furthest side (Key least) (Key greatest)) edge)) ≡ true → is_so (on_side side) (compared (Key text) edge) ≡ false
key_misses side (Long number) text least greatest within is = refl
key_misses side Missing text least greatest within is = refl
key_misses Above (Key edge) text least greatest within is = beyond_fails by_bytes nat_list_cmp_total least text greatest within.0 within.1 Above edge is
key_misses AtLeast (Key edge) text least greatest within is = beyond_fails by_bytes nat_list_cmp_total least text greatest within.0 within.1 AtLeast edge is
key_misses Below (Key edge) text least greatest within is = beyond_fails by_bytes nat_list_cmp_total least text greatest within.0 within.1 Below edge is
key_misses AtMost (Key edge) text least greatest within is = beyond_fails by_bytes nat_list_cmp_total least text greatest within.0 within.1 AtMost edge is

long_misses : (side : Side) (edge : Value) (number least greatest : ℤ) → IsWithin (Long number) (Longs least greatest) → not (is_so (on_side side) (compared (furthest side (Long least) (Long greatest)) edge)) ≡ true → is_so (on_side side) (compared (Long number) edge) ≡ false
long_misses side (Key text) number least greatest within is = refl
long_misses side Missing number least greatest within is = refl
long_misses Above (Long edge) number least greatest within is = beyond_fails int_cmp int_cmp_total least number greatest within.0 within.1 Above edge is
long_misses AtLeast (Long edge) number least greatest within is = beyond_fails int_cmp int_cmp_total least number greatest within.0 within.1 AtLeast edge is
long_misses Below (Long edge) number least greatest within is = beyond_fails int_cmp int_cmp_total least number greatest within.0 within.1 Below edge is
long_misses AtMost (Long edge) number least greatest within is = beyond_fails int_cmp int_cmp_total least number greatest within.0 within.1 AtMost edge is

and_false : (a : Bool) → (a && false) ≡ false
and_false true = refl
and_false false = refl

first_misses : (beyond any meets all : Bool) → (beyond ≡ true → meets ≡ false) → (any ≡ true → all ≡ false) → (beyond || any) ≡ true → (meets && all) ≡ false
first_misses true any meets all one others is = rw (one refl) refl
first_misses false any meets all one others is = rw (others is) (and_false meets)

module _ (value least greatest : Value) (misses : (edge : Edge) → is_beyond least greatest edge ≡ true → meets value edge ≡ false) where
  edges_miss : (edges : List Edge) → list_any (is_beyond least greatest) edges ≡ true → list_all (meets value) edges ≡ false
  edges_miss [] is = absurd (never is)
    where
      never : false ≡ true → ⊥
      never is = cc
  edges_miss (edge ∷ edges) is = first_misses (is_beyond least greatest edge) (list_any (is_beyond least greatest) edges) (meets value edge) (list_all (meets value) edges) (misses edge) (edges_miss edges) is

range_misses : (edges : List Edge) (value : Value) (bound : Bound) → IsWithin value bound → range_excluded edges bound ≡ true → list_all (meets value) edges ≡ false
range_misses edges Missing bound within is = absurd within
range_misses edges (Key text) Nothing within is = absurd within
range_misses edges (Key text) (Longs least greatest) within is = absurd within
range_misses edges (Long number) Nothing within is = absurd within
range_misses edges (Long number) (Keys least greatest) within is = absurd within
range_misses edges (Key text) (Keys least greatest) within is =
    edges_miss (Key text) (Key least) (Key greatest) (λ edge beyond. key_misses edge.side edge.value text least greatest within beyond) edges is
range_misses edges (Long number) (Longs least greatest) within is =
    edges_miss (Long number) (Long least) (Long greatest) (λ edge beyond. long_misses edge.side edge.value number least greatest within beyond) edges is

-- a test that each value within the bound fails
none_passes : (test : Value → Bool) (bound : Bound) → ((value : Value) → IsWithin value bound → test value ≡ false) → (values : List Value) → AreWithin values bound → list_any test values ≡ false
none_passes test bound fails [] within = refl
none_passes test bound fails (value ∷ values) within = rw (fails value within.0) (none_passes test bound fails values within.1)

-- of two lists of answers: where the one says that a query is ruled out, the other says that it misses
abbrev Miss : List Bool → List Bool → Type 0
Miss [] [] = Unit {0}
Miss [] (answer ∷ answers) = ⊥
Miss (out ∷ outs) [] = ⊥
Miss (out ∷ outs) (answer ∷ answers) = (out ≡ true → answer ≡ false) × Miss outs answers

same_length : (outs answers : List Bool) → Miss outs answers → length answers ≡ length outs
same_length [] [] miss = refl
same_length [] (answer ∷ answers) miss = absurd miss
same_length (out ∷ outs) [] miss = absurd miss
same_length (out ∷ outs) (answer ∷ answers) miss = let rest = same_length outs answers miss.1 in omega arith

all_miss : (outs answers : List Bool) → Miss outs answers → list_any it outs ≡ true → list_all it answers ≡ false
all_miss [] [] miss is = cc
all_miss [] (answer ∷ answers) miss is = absurd miss
all_miss (out ∷ outs) [] miss is = absurd miss
all_miss (true ∷ outs) (answer ∷ answers) miss is = rw (miss.0 refl) refl
all_miss (false ∷ outs) (answer ∷ answers) miss is = rw (all_miss outs answers miss.1 is) (and_false answer)

one_counted : (out answer : Bool) → (out ≡ true → answer ≡ false) → cond (it answer) 1 0 ≤ cond (not out) 1 0
one_counted true true miss = absurd (never (miss refl))
  where
    never : true ≡ false → ⊥
    never is = cc
one_counted true false miss = omega arith
one_counted false true miss = omega arith
one_counted false false miss = omega arith

fewer : (outs answers : List Bool) → Miss outs answers → count_by it answers ≤ count_by not outs
fewer [] [] miss = omega arith
fewer [] (answer ∷ answers) miss = absurd miss
fewer (out ∷ outs) [] miss = absurd miss
fewer (out ∷ outs) (answer ∷ answers) miss =
    let first = one_counted out answer miss.0 in
    let rest = fewer outs answers miss.1 in
    let these = sum_by-cons (λ answer. cond (it answer) 1 0) answer answers in
    let those = sum_by-cons (λ out. cond (not out) 1 0) out outs in
    omega arith

too_few : (wanted left found : ℕ) → found ≤ left → nat_lt left wanted ≡ true → nat_le wanted found ≡ false
too_few wanted left found le is = grind (arith, nat_tests)

-- a bool query that is ruled out
module _ (need : Need) (must filter should : List Bool) (musts filters must_nots shoulds : List Bool) (must_miss : Miss must musts) (filter_miss : Miss filter filters) (should_miss : Miss should shoulds) where
  same_need : needed need (length musts) (length filters) (length shoulds) ≡ needed need (length must) (length filter) (length should)
  same_need = rw (same_length must musts must_miss, same_length filter filters filter_miss, same_length should shoulds should_miss) refl

  abbrev enough : Bool
  enough = nat_le (needed need (length musts) (length filters) (length shoulds)) (count_by it shoulds)

  should_misses : nat_lt (count_by not should) (needed need (length must) (length filter) (length should)) ≡ true → enough ≡ false
  should_misses is = too_few (needed need (length musts) (length filters) (length shoulds)) (count_by not should) (count_by it shoulds) (fewer should shoulds should_miss) (ap (nat_lt (count_by not should)) same_need ∙ is)

  three_ways : (first second : Bool) → list_any it must ≡ first → list_any it filter ≡ second → (first || (second || nat_lt (count_by not should) (needed need (length must) (length filter) (length should)))) ≡ true → holds need musts filters must_nots shoulds ≡ false
  three_ways true second by_must by_filter is = rw (all_miss must musts must_miss by_must) refl
  three_ways false true by_must by_filter is = rw (all_miss filter filters filter_miss by_filter) (and_false (list_all it musts))
  three_ways false false by_must by_filter is =
      let no_more : (not (list_any it must_nots) && enough) ≡ false = rw (should_misses is) (and_false (not (list_any it must_nots))) in
      rw (no_more, and_false (list_all it filters)) (and_false (list_all it musts))

  bool_misses : bool_excluded need must filter should ≡ true → holds need musts filters must_nots shoulds ≡ false
  bool_misses is = three_ways (list_any it must) (list_any it filter) refl refl is

module _ (mapping : List Field) (bounds : List Bound) (values : List Value) (within : (name : List ℕ) → AreWithin (values_in mapping values name) (bound_in mapping bounds name)) where
  mutual
    query_misses : (query : Query) → ruled_out mapping bounds query ≡ true → matches mapping values query ≡ false
    query_misses query.All is = sym is
    query_misses query.Nothing is = refl
    query_misses (query.Term field value) is =
        none_passes (is_equal value) (bound_in mapping bounds field) (λ found inside. term_misses value found (bound_in mapping bounds field) inside is) (values_in mapping values field) (within field)
    query_misses (query.Range field edges) is =
        none_passes (λ value. list_all (meets value) edges) (bound_in mapping bounds field) (λ found inside. range_misses edges found (bound_in mapping bounds field) inside is) (values_in mapping values field) (within field)
    query_misses (query.Bool' a must b filter c must_not d should need) is =
        bool_misses need (rule_each mapping bounds must) (rule_each mapping bounds filter) (rule_each mapping bounds should)
        (match_each mapping values must) (match_each mapping values filter) (match_each mapping values must_not) (match_each mapping values should)
        (each_misses _ must) (each_misses _ filter) (each_misses _ should) is

    each_misses : (n : _) (queries : Row_of-Query n) → Miss (rule_each mapping bounds queries) (match_each mapping values queries)
    each_misses n end_of-Query = tt
    each_misses n (more_of-Query one rest) = (query_misses one, each_misses _ rest)

has_rows : (others : ℕ) (out : Bool) → (suc others == 0 || out) ≡ true → out ≡ true
has_rows others out is = grind (arith, nat_tests)

-- rows whose bounds exclude a query
pub excluded_misses : (mapping : List Field) (rows : List Row) (query : Query) → excluded mapping (bounds_of mapping rows) query ≡ true → All (λ row. matches mapping row.values query ≡ false) rows
excluded_misses mapping [] query is k d in_range = absurd (omega arith)
excluded_misses mapping (row ∷ rows) query is k d in_range =
    query_misses mapping (bounds_of mapping (row ∷ rows)).fields (get_or (row ∷ rows) k d).values (λ name. row_within name mapping (row ∷ rows) k d in_range) query (has_rows (length rows) _ is)
