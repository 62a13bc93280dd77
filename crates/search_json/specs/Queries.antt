-- Which query a JSON value is, in the words of Elasticsearch's reference, "Query DSL": `match_all`, `match_none`, `term`,
-- `range` and `bool`, without any other setting.
use Rattle.std.specs.Prelude.{ℕ, bytes_eq, if◌then◌else◌, List, [], ◌∷◌, Option, Some, None, option_map, option_and_then, codes}
use Rattle.serde_json.specs.Data.{Data, null, boolean, number, string, array, object, Items, no_items, item, Members, no_members, member}
use Rattle.es_query.specs.declared.query.Bool as clauses
use Rattle.es_query.specs.declared.query.Need.TheVariants.{AtLeast, Usual}
use Rattle.es_query.specs.declared.query.Query as query
use Rattle.es_query.specs.declared.query.Query.{Query}
use Rattle.doc_json.specs.Json.{is_form}
use Rattle.search_json.specs.declared.names.Clause.{Clause}
use Rattle.search_json.specs.declared.names.Clause.TheVariants.{MinimumShouldMatch, Queries}
use Rattle.search_json.specs.declared.names.Kind.{Kind}
use Rattle.search_json.specs.declared.names.Kind.TheVariants as kind
use Rattle.search_json.specs.declared.names.Occur.{Occur}
use Rattle.search_json.specs.declared.names.Occur.TheVariants.{Filter, Must, MustNot, Should}
use Rattle.search_json.specs.Values.{range_of, small_of, term_of}

-- ---- names

abbrev pub kind_of : List ℕ → Option Kind
kind_of name =
    if bytes_eq name (codes "match_all") then Some kind.MatchAll
    else (if bytes_eq name (codes "match_none") then Some kind.MatchNone
    else (if bytes_eq name (codes "term") then Some kind.Term
    else (if bytes_eq name (codes "range") then Some kind.Range
    else (if bytes_eq name (codes "bool") then Some kind.Bool else None))))

abbrev pub clause_of : List ℕ → Option Clause
clause_of name =
    if bytes_eq name (codes "must") then Some (Queries Must)
    else (if bytes_eq name (codes "filter") then Some (Queries Filter)
    else (if bytes_eq name (codes "must_not") then Some (Queries MustNot)
    else (if bytes_eq name (codes "should") then Some (Queries Should)
    else (if bytes_eq name (codes "minimum_should_match") then Some MinimumShouldMatch else None))))

-- ---- the clauses of a bool query

-- none of them
abbrev pub no_clauses : clauses.Bool
no_clauses = record { must = []; filter = []; must_not = []; should = []; need = Usual }

abbrev pub placed : Occur → clauses.Bool → List Query → clauses.Bool
placed Must found queries = record { must = queries; filter = found.filter; must_not = found.must_not; should = found.should; need = found.need }
placed Filter found queries = record { must = found.must; filter = queries; must_not = found.must_not; should = found.should; need = found.need }
placed MustNot found queries = record { must = found.must; filter = found.filter; must_not = queries; should = found.should; need = found.need }
placed Should found queries = record { must = found.must; filter = found.filter; must_not = found.must_not; should = queries; need = found.need }

abbrev pub with_need : clauses.Bool → ℕ → clauses.Bool
with_need found least =
    record { must = found.must; filter = found.filter; must_not = found.must_not; should = found.should; need = AtLeast least }

-- the clauses that were found, and one more: queries in their clause, or how many of `should` have to match
abbrev pub with_clause : Option Clause → Data → Option (List Query) → clauses.Bool → Option clauses.Bool
with_clause None value queries found = None
with_clause (Some (Queries occur)) value queries found = option_map (placed occur found) queries
with_clause (Some MinimumShouldMatch) value queries found = option_map (with_need found) (small_of value)

-- ---- queries

-- for an object with no members
abbrev pub if_empty : Data → Query → Option Query
if_empty value query = if is_form [] value then Some query else None

-- the query of that kind whose inner value is this, and for a bool query has these clauses
abbrev pub query_by : Option Kind → Data → Option clauses.Bool → Option Query
query_by None value clauses = None
query_by (Some kind.MatchAll) value clauses = if_empty value query.All
query_by (Some kind.MatchNone) value clauses = if_empty value query.Nothing
query_by (Some kind.Term) value clauses = term_of value
query_by (Some kind.Range) value clauses = range_of value
query_by (Some kind.Bool) value clauses = option_map query.Bool clauses

abbrev mutual
  -- an object of one member: the kind of the query, with what it is about
  pub query_of : Data → Option Query
  query_of null = None
  query_of (boolean b) = None
  query_of (number n) = None
  query_of (string text) = None
  query_of (array items) = None
  query_of (object members) = query_in members

  pub query_in : Members → Option Query
  query_in no_members = None
  query_in (member name value no_members) = query_by (kind_of name) value (bool_of value)
  query_in (member name value (member next other rest)) = None

  pub bool_of : Data → Option clauses.Bool
  bool_of null = None
  bool_of (boolean b) = None
  bool_of (number n) = None
  bool_of (string text) = None
  bool_of (array items) = None
  bool_of (object members) = clauses_in members no_clauses

  -- the clauses that were found, and those of these members
  pub clauses_in : Members → clauses.Bool → Option clauses.Bool
  clauses_in no_members found = Some found
  clauses_in (member name value rest) found = option_and_then (clauses_in rest) (with_clause (clause_of name) value (queries_of value) found)

  -- one query, or a list of them
  pub queries_of : Data → Option (List Query)
  queries_of null = None
  queries_of (boolean b) = None
  queries_of (number n) = None
  queries_of (string text) = None
  queries_of (array items) = queries_in items
  queries_of (object members) = option_map (λ only. only ∷ []) (query_in members)

  pub queries_in : Items → Option (List Query)
  queries_in no_items = Some []
  queries_in (item value rest) = option_and_then (λ first. option_map (λ others. first ∷ others) (queries_in rest)) (query_of value)
