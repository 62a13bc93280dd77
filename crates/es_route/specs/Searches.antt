-- What a search asks for.
use Rattle.std.specs.Prelude.{ℕ, ◌&&◌, ◌||◌, Bool, not, nat_le, if◌then◌else◌, List, Option, Some, None, Result, Ok, Err, codes, [], ◌∷◌, unwrap_or}
use Rattle.es_types.specs.declared.limits.TheConstants.{LEAST_BATCH, MOST_BATCH, USUAL_BATCH}
use Rattle.es_types.specs.declared.limit.LimitName.{LimitName}
use Rattle.es_types.specs.declared.limit.LimitName.TheVariants as limit
use Rattle.http_wire.specs.declared.request.Request.{Request}
use Rattle.doc_json.specs.declared.fault.BodyFault.{BodyFault}
use Rattle.doc_json.specs.declared.fault.BodyFault.TheVariants as body
use Rattle.list_machine.specs.Run.{IsWithinLimits}
use Rattle.list_machine.specs.declared.event.Target.TheVariants as target
use Rattle.list_machine.specs.declared.page.request.SearchRequest.{SearchRequest}
use Rattle.reply_json.specs.declared.fault.RestFault.{RestFault}
use Rattle.reply_json.specs.declared.fault.RestFault.TheVariants as fault
use Rattle.es_route.specs.declared.ask.Ask.{Ask}
use Rattle.es_route.specs.declared.ask.Ask.TheVariants as ask
use Rattle.search_json.specs.declared.search.PitRef.{PitRef}
use Rattle.search_json.specs.declared.search.SearchBody.{SearchBody}
use Rattle.search_json.specs.Searches.{search_of}
use Rattle.es_route.specs.declared.params.Param.{Param}
use Rattle.es_route.specs.Answers.{and_then}
use Rattle.es_route.specs.Paths.{index_in}
use Rattle.es_route.specs.Params.{has_param, params_of}
use Rattle.es_route.specs.declared.values.Key.TheVariants as key
use Rattle.es_route.specs.declared.values.Values.{Values}
use Rattle.es_route.specs.Values.{read_params}
use Rattle.es_route.specs.Limits.{body_fault, both, first_with, index_name, told}
use Rattle.es_route.specs.Methods.{gets_or_posts}
use Rattle.es_route.specs.Pits.{pit_number}

-- what a body asks for is within the limits of a search
abbrev pub AreWithinLimits : Result SearchBody BodyFault → Type 0
AreWithinLimits (Ok asked) = IsWithinLimits asked.request
AreWithinLimits (Err fault) = Unit {0}

-- how many shards make a batch, as the request says or as is usual
abbrev pub batch_of : Values → ℕ
batch_of values = unwrap_or values.batch USUAL_BATCH

abbrev pub is_batch : ℕ → Bool
is_batch batch = nat_le LEAST_BATCH batch && nat_le batch MOST_BATCH

-- what a body is read with: the usual number where the request's is none
abbrev pub batch_used : ℕ → ℕ
batch_used batch = if is_batch batch then batch else USUAL_BATCH

-- the index that the path names, where it names one
abbrev pub index_where : Bool → Request → Result (Option (List ℕ)) RestFault
index_where has_index request = if has_index then and_then (index_in request) (λ index. Ok (Some index)) else Ok None

abbrev pub some_name : Result (List ℕ) LimitName → Result (Option (List ℕ)) LimitName
some_name (Ok name) = Ok (Some name)
some_name (Err name) = Err name

abbrev pub index_told : Option (List ℕ) → Result (Option (List ℕ)) LimitName
index_told None = Ok None
index_told (Some index) = some_name (index_name index)

abbrev pub batch_told : ℕ → Result (Unit {0}) LimitName
batch_told batch = if is_batch batch then Ok tt else Err limit.Batch

-- what a search is read with besides its body
abbrev pub read_with : Option (List ℕ) → ℕ → Result (Option (List ℕ) × Unit {0}) LimitName
read_with index batch = both (index_told index) (batch_told batch)

abbrev pub searched_pit : Option PitRef → SearchRequest → Result Ask RestFault
searched_pit None request = Err (fault.Limit limit.Pit)
searched_pit (Some pit) request = Ok (ask.Search (target.Pit (pit_number pit.id) pit.keep) request (Some pit.id))

abbrev pub target_asked : Option (List ℕ) → SearchBody → Result Ask RestFault
target_asked (Some index) asked = Ok (ask.Search (target.Index index) asked.request None)
target_asked None asked = searched_pit asked.pit asked.request

-- a body that isn't one comes before all limits, and a text that is no id after them
abbrev pub search_told : Option (List ℕ) → ℕ → Result SearchBody BodyFault → Result Ask RestFault
search_told index batch (Ok asked) = and_then (told (read_with index batch)) (λ it. target_asked it.0 asked)
search_told index batch (Err (body.Limit name)) = Err (fault.Limit (first_with (read_with index batch) name))
search_told index batch (Err body.BadId) = and_then (told (read_with index batch)) (λ it. Err fault.BadId)
search_told index batch (Err other) = Err (body_fault other)

abbrev pub search_asked : Bool → Request → Result Ask RestFault
search_asked has_index request =
    and_then (index_where has_index request) (λ index. and_then (read_params (key.Batch ∷ []) request.query) (λ values.
    search_told index (batch_of values) (search_of has_index (batch_used (batch_of values)) request.body)))

-- the parameters of a search that aren't built yet: `scroll` is one of an index
abbrev pub has_unbuilt : Bool → List Param → Bool
has_unbuilt has_index params =
    has_param (codes "pretty") params || (has_index && has_param (codes "scroll") params)

abbrev pub check_search : Bool → Request → Result (Unit {0}) RestFault
check_search has_index request =
    if gets_or_posts request && not (has_unbuilt has_index (params_of request.query)) then Ok tt else Err fault.NotBuilt
