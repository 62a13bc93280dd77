-- Each search of a point in time that a request makes asks for the place of each hit.
use Rattle.std.proofs.Common.{subst, ℕ, Bool, true, false, List, Option, Some, None, Result, Ok, Err}
use Rattle.std.specs.Prelude.{[], ◌∷◌, unwrap_or, if◌then◌else◌, codes, IfOk, IfSome, IsTrue}
use Rattle.es_types.specs.declared.doc.Doc.{Doc}
use Rattle.ctx_ids.specs.declared.id.ContextId.{ContextId}
use Rattle.doc_json.specs.declared.fault.BodyFault.{BodyFault}
use Rattle.doc_json.specs.declared.fault.BodyFault.TheVariants as body
use Rattle.doc_json.specs.declared.index.IndexSpec.{IndexSpec}
use Rattle.doc_json.specs.Documents.{doc_of}
use Rattle.doc_json.specs.Indexes.{index_of}
use Rattle.http_wire.specs.declared.request.Request.{Request}
use Rattle.list_machine.specs.Pages.{shows_place}
use Rattle.list_machine.specs.declared.event.Target.TheVariants as target
use Rattle.list_machine.specs.declared.page.request.SearchRequest.{SearchRequest}
use Rattle.reply_json.specs.declared.fault.RestFault.{RestFault}
use Rattle.reply_json.specs.declared.fault.RestFault.TheVariants as fault
use Rattle.search_json.specs.declared.search.PitRef.{PitRef}
use Rattle.search_json.specs.declared.search.SearchBody.{SearchBody}
use Rattle.search_json.specs.Pits.{pit_close_of}
use Rattle.search_json.specs.Searches.{ShowsInPit, search_of}
use Rattle.es_route.specs.declared.ask.Ask.{Ask}
use Rattle.es_route.specs.declared.ask.Ask.TheVariants as ask
use Rattle.es_route.specs.declared.resource.Resource.{Resource}
use Rattle.es_route.specs.declared.resource.Resource.TheVariants as resource
use Rattle.es_route.specs.Moments.{is_unreadable}
use Rattle.es_route.specs.Resources.{resource_of}
use Rattle.es_route.specs.Paths.{part, id_in, index_in, is_own_word}
use Rattle.es_route.specs.declared.values.Key.TheVariants as key
use Rattle.es_route.specs.Values.{needed, read_params}
use Rattle.es_route.specs.Limits.{index_name, named, told}
use Rattle.es_route.specs.Items.{actions_of, checked}
use Rattle.es_route.specs.Route.{PitSearchesShowPlaces, asked_of, asked_at, asked_at_index, doc_asked, moment_first, of_index}
use Rattle.es_route.specs.Answers.{and_then}
use Rattle.es_route.specs.Bodies.{empty_body, no_body, some_body}
use Rattle.es_route.specs.Methods.{built, check_built, gets_or_posts, is_method, puts_or_posts}
use Rattle.es_route.specs.Documents.{bulk_asked, create_asked, create_of, index_bulk_asked, put_asked, put_of, refresh_asked, remove_asked}
use Rattle.es_route.specs.Pits.{closing_asked, closing_of, opening_asked, opening_of}
use Rattle.es_route.specs.Searches.{batch_of, batch_used, check_search, index_where, read_with, search_asked, search_told, searched_pit, target_asked}

-- of one ask
abbrev AskShows : Ask → Type 0
AskShows (ask.Search (target.Pit number keep) search sent) = IsTrue (shows_place search.sort)
AskShows other = Unit {0}

abbrev Shows : Result Ask RestFault → Type 0
Shows asked = IfOk asked AskShows

-- what bodies ask for
abbrev BodiesShow : Type 0
BodiesShow = (has_index : Bool) (batch : ℕ) (body : List ℕ) → IfOk (search_of has_index batch body) ShowsInPit

-- ---- whatever came before it

then_shows : {A : Type 0} (read : Result A RestFault) (next : A → Result Ask RestFault) → ((a : A) → Shows (next a)) → Shows (and_then read next)
then_shows (Ok a) next shows = shows a
then_shows (Err fault) next shows = tt

-- one of two
either_shows : (test : Bool) (one other : Result Ask RestFault) → Shows one → Shows other → Shows (if test then one else other)
either_shows true one other first second = first
either_shows false one other first second = second

-- ---- searches

searched_shows : (pit : Option PitRef) (search : SearchRequest) → IfSome pit (λ p. IsTrue (shows_place search.sort)) → Shows (searched_pit pit search)
searched_shows None search shows = tt
searched_shows (Some pit) search shows = shows

target_shows : (index : Option (List ℕ)) (asked : SearchBody) → ShowsInPit asked → Shows (target_asked index asked)
target_shows (Some index) asked shows = tt
target_shows None asked shows = searched_shows asked.pit asked.request shows

told_shows : (index : Option (List ℕ)) (batch : ℕ) (asked : Result SearchBody BodyFault) → IfOk asked ShowsInPit → Shows (search_told index batch asked)
told_shows index batch (Ok asked) shows = then_shows (told (read_with index batch)) _ (λ it. target_shows it.0 asked shows)
told_shows index batch (Err (body.Limit name)) shows = tt
told_shows index batch (Err body.BadId) shows = then_shows (told (read_with index batch)) _ (λ it. tt)
told_shows index batch (Err other) shows = tt

search_shows : (bodies : BodiesShow) (has_index : Bool) (request : Request) → Shows (search_asked has_index request)
search_shows bodies has_index request =
    then_shows (index_where has_index request) _ (λ index. then_shows (read_params (key.Batch ∷ []) request.query) _ (λ values.
    told_shows index (batch_of values) (search_of has_index (batch_used (batch_of values)) request.body) (bodies has_index (batch_used (batch_of values)) request.body)))

-- ---- the other requests search nothing

created_shows : (index : List ℕ) (spec : Result IndexSpec BodyFault) → Shows (create_of index spec)
created_shows index (Ok spec) = then_shows (told (index_name index)) _ (λ name. tt)
created_shows index (Err (body.Limit name)) = tt
created_shows index (Err other) = tt

create_shows : (request : Request) → Shows (create_asked request)
create_shows request =
    then_shows (index_in request) _ (λ index. then_shows (read_params [] request.query) _ (λ values.
    created_shows index (index_of request.body)))

doc_shows : (index id : List ℕ) (refresh : Bool) (doc : Result Doc BodyFault) → Shows (put_of index id refresh doc)
doc_shows index id refresh (Ok doc) = then_shows (named index id) _ (λ it. tt)
doc_shows index id refresh (Err fault) = tt

put_shows : (request : Request) → Shows (put_asked request)
put_shows request =
    then_shows (index_in request) _ (λ index. then_shows (id_in request) _ (λ id.
    then_shows (read_params (key.Refresh ∷ []) request.query) _ (λ values. doc_shows index id (unwrap_or values.refresh false) (doc_of request.body))))

remove_shows : (request : Request) → Shows (remove_asked request)
remove_shows request =
    then_shows (index_in request) _ (λ index. then_shows (id_in request) _ (λ id.
    then_shows (read_params (key.Refresh ∷ []) request.query) _ (λ values. then_shows (no_body request) _ (λ none.
    then_shows (named index id) _ (λ it. tt)))))

bulk_shows : (index : Option (List ℕ)) (request : Request) → Shows (bulk_asked index request)
bulk_shows index request =
    then_shows (read_params (key.Refresh ∷ []) request.query) _ (λ values. then_shows (some_body request) _ (λ some.
    then_shows (checked (actions_of index request.body)) _ (λ items. tt)))

index_bulk_shows : (request : Request) → Shows (index_bulk_asked request)
index_bulk_shows request = then_shows (index_in request) _ (λ index. bulk_shows (Some index) request)

refresh_shows : (request : Request) → Shows (refresh_asked request)
refresh_shows request =
    then_shows (index_in request) _ (λ index. then_shows (read_params [] request.query) _ (λ refresh.
    then_shows (no_body request) _ (λ none. then_shows (told (index_name index)) _ (λ name. tt))))

opened_shows : (index : List ℕ) (keep : Option ℕ) → Shows (opening_of index keep)
opened_shows index None = tt
opened_shows index (Some keep) = then_shows (told (index_name index)) _ (λ name. tt)

opening_shows : (request : Request) → Shows (opening_asked request)
opening_shows request =
    then_shows (index_in request) _ (λ index. then_shows (read_params (key.KeepAlive ∷ []) request.query) _ (λ values.
    then_shows (needed key.KeepAlive values.keep) _ (λ keep. then_shows (empty_body request) _ (λ none. opened_shows index keep))))

closed_shows : (id : Result ContextId BodyFault) → Shows (closing_of id)
closed_shows (Ok id) = tt
closed_shows (Err fault) = tt

closing_shows : (request : Request) → Shows (closing_asked request)
closing_shows request = then_shows (read_params [] request.query) _ (λ none. closed_shows (pit_close_of request.body))

-- ---- the routes

built_shows : (taken : Bool) (request : Request) (asked : Result Ask RestFault) → Shows asked → Shows (built taken request asked)
built_shows taken request asked shows = then_shows (check_built taken request) _ (λ yes. shows)

document_shows : (request : Request) → Shows (doc_asked request)
document_shows request =
    either_shows (puts_or_posts request) _ _ (built_shows true request (put_asked request) (put_shows request))
    (built_shows (is_method (codes "DELETE") request) request (remove_asked request) (remove_shows request))

index_resource_shows : (bodies : BodiesShow) (request : Request) (named : Resource) → Shows (asked_at_index request named)
index_resource_shows bodies request resource.Index = built_shows (is_method (codes "PUT") request) request (create_asked request) (create_shows request)
index_resource_shows bodies request resource.Doc = document_shows request
index_resource_shows bodies request resource.IndexBulk = built_shows (puts_or_posts request) request (index_bulk_asked request) (index_bulk_shows request)
index_resource_shows bodies request resource.Refresh = built_shows (gets_or_posts request) request (refresh_asked request) (refresh_shows request)
index_resource_shows bodies request resource.IndexSearch = then_shows (check_search true request) _ (λ yes. search_shows bodies true request)
index_resource_shows bodies request resource.OpenPit = built_shows (is_method (codes "POST") request) request (opening_asked request) (opening_shows request)
index_resource_shows bodies request other = tt

own_shows : (bodies : BodiesShow) (request : Request) (named : Resource) → Shows (of_index request named)
own_shows bodies request named =
    either_shows (is_own_word (part 1 request.path)) (Err fault.NotBuilt) (asked_at_index request named) tt (index_resource_shows bodies request named)

resource_shows : (bodies : BodiesShow) (request : Request) (named : Option Resource) → Shows (asked_at request named)
resource_shows bodies request None = tt
resource_shows bodies request (Some resource.Bulk) = built_shows (puts_or_posts request) request (bulk_asked None request) (bulk_shows None request)
resource_shows bodies request (Some resource.Search) = then_shows (check_search false request) _ (λ yes. search_shows bodies false request)
resource_shows bodies request (Some resource.ClosePit) = built_shows (is_method (codes "DELETE") request) request (closing_asked request) (closing_shows request)
resource_shows bodies request (Some other) = own_shows bodies request other

moment_shows : (asked : Result Ask RestFault) → Shows (moment_first asked)
moment_shows (Ok asked) = tt
moment_shows (Err (fault.Limit name)) = tt
moment_shows (Err other) = tt

asked_shows : (bodies : BodiesShow) (request : Request) → Shows (asked_of request)
unfolding asked_of
asked_shows bodies request =
    either_shows (is_unreadable request) (moment_first _) _ (moment_shows _) (resource_shows bodies request (resource_of request.path))

-- in the words of the law
pub searches_show : BodiesShow → PitSearchesShowPlaces
searches_show bodies = λ request number keep search sent is. subst Shows is (asked_shows bodies request)
