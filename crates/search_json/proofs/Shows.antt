-- A body that names a point in time asks for the place of each hit.
use Rattle.std.proofs.Common.{refl, ℕ, Bool, true, false, List, Option, Some, None, Result, Ok, Err}
use Rattle.std.specs.Prelude.{if◌then◌else◌, is_some, IfOk, IsTrue}
use Rattle.serde_json.specs.Data.{Data}
use Rattle.es_types.specs.declared.limit.LimitName.{LimitName}
use Rattle.ctx_ids.specs.declared.id.ContextId.{ContextId}
use Rattle.es_query.specs.declared.query.Query.{Query}
use Rattle.doc_json.specs.declared.fault.BodyFault.{BodyFault}
use Rattle.doc_json.specs.declared.fault.BodyFault.TheVariants.{Shape}
use Rattle.doc_json.specs.Indexes.{filled}
use Rattle.doc_json.specs.Json.{data_of, form_then, json_then}
use Rattle.list_machine.specs.Pages.{shows_place}
use Rattle.list_machine.specs.declared.page.request.SearchRequest.{SearchRequest}
use Rattle.search_json.specs.declared.pit.Keep.{Keep}
use Rattle.search_json.specs.declared.pit.Named.{Named}
use Rattle.search_json.specs.declared.search.SearchBody.{SearchBody}
use Rattle.search_json.specs.declared.search.Span.{Span}
use Rattle.search_json.specs.declared.sort.NamedKey.{NamedKey}
use Rattle.search_json.specs.Pits.{id_told, pit_of}
use Rattle.search_json.specs.Searches.{ShowsInPit, asked_of, body_with, first_broken, has_form, of_form, of_parts, request_of, search_of, span_in, unless_broken}
use Rattle.search_json.specs.Sorts.{sort_of}

-- whatever has its form, or hasn't
form_shows : {A : Type 0} (part : Option A) (next : A → Result SearchBody BodyFault) → ((a : A) → IfOk (next a) ShowsInPit) → IfOk (form_then part next) ShowsInPit
form_shows None next shows = tt
form_shows (Some part) next shows = shows part

-- the text of its id is one, or isn't
named_shows : (request : SearchRequest) (keep : Keep) (told : Result ContextId BodyFault) → IsTrue (shows_place request.sort) → IfOk (body_with request keep told) ShowsInPit
named_shows request keep (Ok id) shows = shows
named_shows request keep (Err fault) shows = tt

-- a limit is broken, or none
limits_show : (told : Option LimitName) (batch : ℕ) (span : Span) (keys : List NamedKey) (query : Query) (named : Option Named)
    → IfOk (unless_broken told (request_of (is_some named) batch span keys query) named) ShowsInPit
limits_show (Some name) batch span keys query named = tt
limits_show None batch span keys query None = tt
limits_show None batch span keys query (Some named) = named_shows (request_of true batch span keys query) named.keep (id_told named.id) refl

-- its parts
of_parts_shows : (has_index : Bool) (named : Option Named) (batch : ℕ) (value : Data) → IfOk (of_parts has_index named batch value) ShowsInPit
unfolding of_parts
of_parts_shows has_index named batch value =
    form_shows (span_in value) _ (λ span. form_shows (sort_of value) _ (λ keys. form_shows (asked_of value) _ (λ query.
    limits_show (first_broken has_index named span keys) batch span keys query named)))

-- its form
in_form_shows : (form : Bool) (has_index : Bool) (batch : ℕ) (value : Data)
    → IfOk (if form then form_then (pit_of value) (λ named. of_parts has_index named batch value) else Err Shape) ShowsInPit
in_form_shows true has_index batch value = form_shows (pit_of value) _ (λ named. of_parts_shows has_index named batch value)
in_form_shows false has_index batch value = tt

of_form_shows : (has_index : Bool) (batch : ℕ) (value : Data) → IfOk (of_form has_index batch value) ShowsInPit
unfolding of_form
of_form_shows has_index batch value = in_form_shows (has_form value) has_index batch value

-- and its bytes are JSON
read_shows : (read : Option Data) (has_index : Bool) (batch : ℕ) → IfOk (json_then read (λ value. of_form has_index batch value)) ShowsInPit
read_shows None has_index batch = tt
read_shows (Some value) has_index batch = of_form_shows has_index batch value

pub search_shows : (has_index : Bool) (batch : ℕ) (body : List ℕ) → IfOk (search_of has_index batch body) ShowsInPit
unfolding search_of
search_shows has_index batch body = read_shows (data_of (filled body)) has_index batch
