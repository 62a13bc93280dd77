-- What the body of a search asks for, and in which order a bad one is refused: what is no JSON (RFC 8259), then another form, then
-- a limit that is broken, then a text that is no id. The members are those of Elasticsearch's reference, "Search API"
-- and "Paginate search results": `query`, `size`, `from`, `sort`, `pit`, `search_after`, `slice`
-- and `track_total_hits`.
use Rattle.std.specs.Prelude.{ℕ, ◌+◌, ◌&&◌, ◌||◌, not, nat_lt, Bool, true, if◌then◌else◌, List, [], ◌∷◌, map, is_some, Option, Some, None, option_map, option_and_then, Result, Ok, Err, IfSome, IsTrue, codes}
use Rattle.std.specs.Option.{option_map_or}
use Rattle.es_types.specs.declared.limits.TheConstants.{WINDOW}
use Rattle.serde_json.specs.Data.{Data}
use Rattle.serde_json.specs.Find.{as_bool, get}
use Rattle.es_types.specs.declared.limit.LimitName.{LimitName}
use Rattle.es_types.specs.declared.limit.LimitName.TheVariants.{From, KeepAlive, Pit, Sort, Window, Slice as SliceLimit}
use Rattle.ctx_ids.specs.declared.id.ContextId.{ContextId}
use Rattle.es_query.specs.declared.query.Query.{Query, All}
use Rattle.es_sort.specs.declared.sort.Keys.{Keys}
use Rattle.slice_rule.specs.declared.slice.Slice.{Slice}
use Rattle.list_machine.specs.Pages.{shows_place}
use Rattle.list_machine.specs.declared.page.request.SearchRequest.{SearchRequest}
use Rattle.doc_json.specs.declared.fault.BodyFault.{BodyFault}
use Rattle.doc_json.specs.declared.fault.BodyFault.TheVariants.{Limit, Shape}
use Rattle.doc_json.specs.Indexes.{filled}
use Rattle.doc_json.specs.Json.{data_of, form_then, is_form, json_then}
use Rattle.search_json.specs.declared.search.Span.{Span}
use Rattle.search_json.specs.declared.search.SearchBody.{SearchBody}
use Rattle.search_json.specs.declared.sort.NamedKey.{NamedKey}
use Rattle.search_json.specs.declared.pit.Keep.{Keep}
use Rattle.search_json.specs.declared.pit.Named.{Named}
use Rattle.search_json.specs.declared.search.PitRef.{PitRef}
use Rattle.search_json.specs.Pits.{asked_keep, breaks_keep, id_told, pit_of}
use Rattle.search_json.specs.Queries.{query_of}
use Rattle.search_json.specs.Slices.{breaks_slice, slice_of}
use Rattle.search_json.specs.Sorts.{after_of, breaks_sort, sort_key, sort_of}
use Rattle.search_json.specs.Values.{small_of}

-- ---- members

abbrev pub count_in : ℕ → Option Data → Option ℕ
count_in usual None = Some usual
count_in usual (Some count) = small_of count

-- how many hits are wanted: ten where the body doesn't say
unfoldable pub size_of : Data → Option ℕ
size_of value = count_in 10 (get (codes "size") value)

-- how many hits are left out: none where the body doesn't say
unfoldable pub from_of : Data → Option ℕ
from_of value = count_in 0 (get (codes "from") value)

abbrev pub asked_in : Option Data → Option Query
asked_in None = Some All
asked_in (Some query) = query_of query

-- which rows are wanted: all where the body doesn't say
unfoldable pub asked_of : Data → Option Query
asked_of value = asked_in (get (codes "query") value)

-- ---- the form

-- `track_total_hits` says true or false, and makes no difference
unfoldable pub has_track_form : Data → Bool
has_track_form value = option_map_or (λ track. is_some (as_bool track)) (get (codes "track_total_hits") value) true

unfoldable pub has_form : Data → Bool
has_form value =
    is_form (codes "query" ∷ codes "size" ∷ codes "from" ∷ codes "sort" ∷ codes "pit" ∷ codes "search_after" ∷ codes "slice" ∷ codes "track_total_hits" ∷ []) value
    && has_track_form value

-- ---- limits

-- how many hits are left out, how many are wanted, of which slice, and after which values
abbrev pub span_of : ℕ → ℕ → Option Slice → Option Keys → Span
span_of from size slice after = record { from = from; size = size; after = after; slice = slice }

-- The first limit that is broken: a point in time can be kept so long, either the path names an index or the body a point in time, a
-- slice is one of a point in time, hits are left out only where no values are given to go on after, at most 10,000 hits are left
-- out and wanted together, there can be such a slice, and then the keys of the sort.
abbrev pub first_broken : Bool → Option Named → Span → List NamedKey → Option LimitName
first_broken has_index named span keys =
    if breaks_keep named then Some KeepAlive
    else (if (if has_index then is_some named else not (is_some named)) || (is_some span.slice && not (is_some named)) then Some Pit
    else (if is_some span.after && nat_lt 0 span.from then Some From
    else (if nat_lt WINDOW (span.from + span.size) then Some Window
    else (if breaks_slice span.slice then Some SliceLimit
    else (if breaks_sort (is_some named) keys then Some Sort else None)))))

-- ---- the whole

-- a hit shows its place where the search is of a point in time
abbrev pub request_of : Bool → ℕ → Span → List NamedKey → Query → SearchRequest
request_of in_pit batch span keys query = record {
  query = query;
  sort = record { keys = map sort_key keys; show_place = in_pit };
  from = span.from;
  size = span.size;
  after = span.after;
  slice = span.slice;
  batch = batch;
}

abbrev pub pit_ref : Keep → ContextId → PitRef
pit_ref keep id = record { id = id; keep = asked_keep keep }

abbrev pub body_with : SearchRequest → Keep → Result ContextId BodyFault → Result SearchBody BodyFault
body_with request keep (Ok id) = Ok (record { request = request; pit = Some (pit_ref keep id) })
body_with request keep (Err fault) = Err fault

abbrev pub body_of : SearchRequest → Option Named → Result SearchBody BodyFault
body_of request None = Ok (record { request = request; pit = None })
body_of request (Some named) = body_with request named.keep (id_told named.id)

abbrev pub unless_broken : Option LimitName → SearchRequest → Option Named → Result SearchBody BodyFault
unless_broken (Some name) request named = Err (Limit name)
unless_broken None request named = body_of request named

abbrev pub within_limits : Bool → Option Named → ℕ → Span → List NamedKey → Query → Result SearchBody BodyFault
within_limits has_index named batch span keys query = unless_broken (first_broken has_index named span keys) (request_of (is_some named) batch span keys query) named

-- these of a body
unfoldable pub span_in : Data → Option Span
span_in value =
    option_and_then (λ from. option_and_then (λ size. option_and_then (λ slice. option_map (span_of from size slice) (after_of value))
    (slice_of value)) (size_of value)) (from_of value)

unfoldable pub of_parts : Bool → Option Named → ℕ → Data → Result SearchBody BodyFault
of_parts has_index named batch value =
    form_then (span_in value) (λ span. form_then (sort_of value) (λ keys. form_then (asked_of value) (λ query.
    within_limits has_index named batch span keys query)))

unfoldable pub of_form : Bool → ℕ → Data → Result SearchBody BodyFault
of_form has_index batch value =
    if has_form value then form_then (pit_of value) (λ named. of_parts has_index named batch value) else Err Shape

-- what a body asks for where the path names an index or doesn't, and so many shards make a batch. An empty body counts as `{}`.
unfoldable pub search_of : Bool → ℕ → List ℕ → Result SearchBody BodyFault
search_of has_index batch body = json_then (data_of (filled body)) (λ value. of_form has_index batch value)

-- a search of a point in time shows the place of each hit
abbrev pub ShowsInPit : SearchBody → Type 0
ShowsInPit body = IfSome body.pit (λ pit. IsTrue (shows_place body.request.sort))
