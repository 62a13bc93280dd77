-- What a request asks for, or the first refusal that it meets.
use Rattle.std.specs.Prelude.{◌≡◌, ℕ, Bool, true, false, if◌then◌else◌, Option, Some, None, Result, Ok, Err, codes, IsTrue}
use Rattle.es_types.specs.declared.limit.LimitName.TheVariants as limit
use Rattle.ctx_ids.specs.declared.id.ContextId.{ContextId}
use Rattle.http_wire.specs.declared.request.Request.{Request}
use Rattle.list_machine.specs.Objects.{IsObject}
use Rattle.list_machine.specs.Pages.{shows_place}
use Rattle.list_machine.specs.Run.{IsBounded}
use Rattle.list_machine.specs.declared.event.Event.TheVariants as event
use Rattle.list_machine.specs.declared.event.Target.TheVariants as target
use Rattle.list_machine.specs.declared.page.request.SearchRequest.{SearchRequest}
use Rattle.reply_json.specs.declared.fault.RestFault.{RestFault}
use Rattle.reply_json.specs.declared.fault.RestFault.TheVariants as fault
use Rattle.es_route.specs.declared.ask.Ask.{Ask}
use Rattle.es_route.specs.declared.ask.Ask.TheVariants as ask
use Rattle.es_route.specs.declared.resource.Resource.{Resource}
use Rattle.es_route.specs.declared.resource.Resource.TheVariants as resource
use Rattle.es_route.specs.Answers.{and_then}
use Rattle.es_route.specs.Moments.{is_unreadable}
use Rattle.es_route.specs.Resources.{resource_of}
use Rattle.es_route.specs.Paths.{is_own_word, part}
use Rattle.es_route.specs.Methods.{built, gets_or_posts, is_method, puts_or_posts}
use Rattle.es_route.specs.Items.{AreActions}
use Rattle.es_route.specs.Documents.{bulk_asked, create_asked, index_bulk_asked, put_asked, refresh_asked, remove_asked}
use Rattle.es_route.specs.Pits.{closing_asked, opening_asked}
use Rattle.es_route.specs.Searches.{check_search, search_asked}

abbrev pub doc_asked : Request → Result Ask RestFault
doc_asked request =
    if puts_or_posts request then built true request (put_asked request)
    else built (is_method (codes "DELETE") request) request (remove_asked request)

-- what a request of a route that begins with an index asks for
abbrev pub asked_at_index : Request → Resource → Result Ask RestFault
asked_at_index request resource.Index = built (is_method (codes "PUT") request) request (create_asked request)
asked_at_index request resource.Doc = doc_asked request
asked_at_index request resource.IndexBulk = built (puts_or_posts request) request (index_bulk_asked request)
asked_at_index request resource.Refresh = built (gets_or_posts request) request (refresh_asked request)
asked_at_index request resource.IndexSearch = and_then (check_search true request) (λ yes. search_asked true request)
asked_at_index request resource.OpenPit = built (is_method (codes "POST") request) request (opening_asked request)
asked_at_index request other = Err fault.NotBuilt

-- the index's part of the path is none of the service's own words
abbrev pub of_index : Request → Resource → Result Ask RestFault
of_index request resource = if is_own_word (part 1 request.path) then Err fault.NotBuilt else asked_at_index request resource

abbrev pub asked_at : Request → Option Resource → Result Ask RestFault
asked_at request None = Err fault.NotBuilt
asked_at request (Some resource.Bulk) = built (puts_or_posts request) request (bulk_asked None request)
asked_at request (Some resource.Search) = and_then (check_search false request) (λ yes. search_asked false request)
asked_at request (Some resource.ClosePit) = built (is_method (codes "DELETE") request) request (closing_asked request)
asked_at request (Some resource) = of_index request resource

-- what a request is answered that hands in a moment which isn't readable: that comes before all limits, ids and events
abbrev pub moment_first : Result Ask RestFault → Result Ask RestFault
moment_first (Ok ask) = Err (fault.Limit limit.Moment)
moment_first (Err (fault.Limit name)) = Err (fault.Limit limit.Moment)
moment_first (Err fault.BadId) = Err (fault.Limit limit.Moment)
moment_first (Err other) = Err other

abbrev pub asked_when : Bool → Result Ask RestFault → Result Ask RestFault
asked_when unreadable asked = if unreadable then moment_first asked else asked

-- what a request asks for
unfoldable pub asked_of : Request → Result Ask RestFault
asked_of request = asked_when (is_unreadable request) (asked_at request (resource_of request.path))

-- what is asked for may be asked: an index of 1 to 1,024 shards, a put of a JSON object, a bulk with the items of its body, a search
-- within its limits
abbrev pub AsksSound : Ask → Type 0
AsksSound (ask.Create index spec) = IsBounded (event.Create index spec.shards spec.mapping)
AsksSound (ask.Search target request sent) = IsBounded (event.Search target request)
AsksSound (ask.Put index id doc refresh) = IsObject doc.source
AsksSound (ask.Bulk index body refresh items) = AreActions index body items
AsksSound other = Unit {0}

-- a request that searches a point in time asks for the place of each hit
abbrev pub PitSearchesShowPlaces : Type 0
PitSearchesShowPlaces = (request : Request) (number : ℕ) (keep : Option ℕ) (search : SearchRequest) (sent : Option ContextId)
    → asked_of request ≡ Ok (ask.Search (target.Pit number keep) search sent) → IsTrue (shows_place search.sort)
