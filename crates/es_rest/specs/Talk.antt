-- Which events a request asks for, what it is answered, and what a row of requests makes of the history.
use Rattle.std.specs.Prelude.{◌≡◌, ◌⊎◌, ℕ, ◌+◌, ◌*◌, Bool, true, false, if◌then◌else◌, List, [], ◌∷◌, Option, Some, None, Ok, Err}
use Rattle.ctx_ids.specs.declared.id.ContextId.{ContextId}
use Rattle.ctx_ids.specs.Ids.{text_of}
use Rattle.http_wire.specs.declared.request.Request.{Request}
use Rattle.list_machine.specs.declared.event.Event.{Event}
use Rattle.list_machine.specs.declared.event.Event.TheVariants as event
use Rattle.list_machine.specs.declared.event.Change.TheVariants as change
use Rattle.list_machine.specs.declared.event.Reply.{Reply}
use Rattle.list_machine.specs.declared.event.Reply.TheVariants as reply
use Rattle.list_machine.specs.declared.event.Target.{Target}
use Rattle.list_machine.specs.declared.event.Target.TheVariants.{Index, Pit}
use Rattle.list_machine.specs.declared.event.Which.TheVariants.{Pits}
use Rattle.list_machine.specs.declared.event.Limits.{Limits}
use Rattle.list_machine.specs.Run.{History, state_of}
use Rattle.list_machine.specs.Serving.{Call, GrowsBeside, applied}
use Rattle.es_rest.specs.declared.refusal.Named.{Named}
use Rattle.es_rest.specs.declared.refusal.Named.TheVariants as named
use Rattle.reply_json.specs.declared.fault.RestFault.{RestFault}
use Rattle.reply_json.specs.declared.fault.RestFault.TheVariants as fault
use Rattle.reply_json.specs.declared.response.Response.{Response}
use Rattle.reply_json.specs.declared.response.Response.TheVariants as response
use Rattle.reply_json.specs.declared.response.Response.TheVariants.{Fault}
use Rattle.reply_json.specs.declared.response.RouteName.{RouteName}
use Rattle.reply_json.specs.declared.response.RouteName.TheVariants as route
use Rattle.reply_json.specs.Documents.{closed_status, wrote_status}
use Rattle.es_route.specs.declared.ask.Ask.{Ask}
use Rattle.es_route.specs.declared.ask.Ask.TheVariants.{Create, Put, Remove, Bulk, Refresh, OpenPit, ClosePit, Search}
use Rattle.es_route.specs.Items.{items_in, items_of}
use Rattle.es_rest.specs.Items.{changed_by, lines_of, writes_of}
use Rattle.es_route.specs.Route.{asked_of}
use Rattle.es_rest.specs.Scripts.{CutShort, Part, Script, Talks, each, is_refused, refreshes, refusal, refused}

-- ---- what is asked

-- the events that a request asks for first, whatever they are answered
abbrev pub events_of : Ask → List Event
events_of (Create index spec) = event.Create index spec.shards spec.mapping ∷ []
events_of (Put index id doc refresh) = event.Write index id (change.Put doc) ∷ []
events_of (Remove index id refresh) = event.Write index id change.Remove ∷ []
events_of (Bulk index body refresh items) = writes_of (items_in (items_of index body))
events_of (Refresh index) = []
events_of (OpenPit index keep) = event.OpenPit index keep ∷ []
events_of (ClosePit number) = event.Close (Pits (number ∷ [])) ∷ []
events_of (Search target request sent) = event.Search target request ∷ []

-- the index of a Write that was taken, where a refresh is asked
abbrev pub written : Bool → List ℕ → List Reply → List (List ℕ)
written refresh index [] = []
written refresh index (said ∷ replies) = if is_refused said then [] else (if refresh then index ∷ [] else [])

-- the indexes that it refreshes then, by the replies to those
abbrev pub refreshed_of : Ask → List Reply → List (List ℕ)
refreshed_of (Put index id doc refresh) replies = written refresh index replies
refreshed_of (Remove index id refresh) replies = written refresh index replies
refreshed_of (Bulk index body refresh items) replies = if refresh then changed_by [] (items_in (items_of index body)) replies else []
refreshed_of (Refresh index) replies = index ∷ []
refreshed_of other replies = []

unfoldable pub script_of : Ask → Script
script_of ask = each (events_of ask) (λ replies. refreshes (refreshed_of ask replies))

-- ---- what is answered

abbrev pub status_of : Reply → ℕ
status_of (reply.Wrote result seq) = wrote_status result
status_of (reply.Closed freed) = closed_status freed
status_of other = 200

-- what a reply on that route is answered, unless it refuses
abbrev pub settled : Option RestFault → Reply → RouteName → Response
settled (Some fault) said to = response.Fault fault
settled None said to = response.Json (status_of said) said to

-- what the one event of a request is answered, once it has a reply
abbrev pub one_answer : Named → RouteName → List Reply → Option Response
one_answer it to [] = None
one_answer it to (said ∷ replies) = Some (settled (refusal it said) said to)

-- what a refresh is answered: the reply to its Seal
abbrev pub seal_answer : Part → Option Response
seal_answer [] = None
seal_answer (said ∷ part) = Some (response.Json (status_of said.1) said.1 route.Refresh)

-- how the answer of a search is printed
abbrev pub search_route : Target → RouteName
search_route (Index index) = route.Search None
search_route (Pit number keep) = route.Search (Some number)

-- the text of an id as it was sent
abbrev pub sent_text : Option ContextId → List ℕ
sent_text None = []
sent_text (Some id) = text_of id

-- what a search names: the index, or the context by its id as it was sent
abbrev pub search_named : Target → Option ContextId → Named
search_named (Index index) sent = named.Index index
search_named (Pit number keep) sent = named.Context (sent_text sent)

-- what the replies are answered, where no refresh was refused
abbrev pub answer_of : Ask → List Reply → Part → Option Response
answer_of (Create index spec) replies part = one_answer (named.Index index) (route.Create index) replies
answer_of (Put index id doc refresh) replies part = one_answer (named.Index index) (route.Put index id) replies
answer_of (Remove index id refresh) replies part = one_answer (named.Index index) (route.Remove index id) replies
answer_of (Bulk index body refresh items) replies part = Some (response.Bulk (lines_of (items_in (items_of index body)) replies))
answer_of (Refresh index) replies part = seal_answer part
answer_of (OpenPit index keep) replies part = one_answer (named.Index index) route.OpenPit replies
answer_of (ClosePit number) replies part = one_answer (named.Context []) route.ClosePit replies
answer_of (Search target request sent) replies part = one_answer (search_named target sent) (search_route target) replies

abbrev pub or_fault : Option RestFault → Option Response → Option Response
or_fault (Some why) answer = Some (response.Fault why)
or_fault None answer = answer

-- what follows from the replies to these events, and from the part after them; nothing while an event has no reply
abbrev pub after_each : List Event → (List Reply → Part → Option Response) → Part → Option Response
after_each [] later part = later [] part
after_each (event ∷ events) later [] = None
after_each (event ∷ events) later (said ∷ part) = after_each events (λ replies rest. later (said.1 ∷ replies) rest) part

-- what a request is answered, once all of its events have replies: a refused refresh has the last word
unfoldable pub response_of : Ask → Part → Option Response
response_of ask part = after_each (events_of ask) (λ replies rest. or_fault (refused rest) (answer_of ask replies rest)) part

-- ---- what became of the history

-- all events of a request were asked, and the response prints their replies
pub record Conversation (limits : Limits) (seat moment : ℕ) (ask : Ask) (old new : History) (response : Response) : Type 0 where
  pub part : Part
  pub talks : Talks limits seat moment (script_of ask) old new part
  pub all : script_of ask part ≡ None
  pub is : response_of ask part ≡ Some response

-- memory ran out on the way
abbrev pub Interrupted : Limits → ℕ → ℕ → Ask → History → History → Type 0
Interrupted limits seat moment ask old new = CutShort limits seat moment (script_of ask) old new

-- a refused request asks for nothing
pub record IsFault (old new : History) (request : Request) (response : Response) : Type 0 where
  pub fault : RestFault
  pub route : asked_of request ≡ Err fault
  pub same : new ≡ old
  pub is : response ≡ Fault fault

pub record IsDone (limits : Limits) (seat moment : ℕ) (old new : History) (request : Request) (response : Response) : Type 0 where
  pub ask : Ask
  pub route : asked_of request ≡ Ok ask
  pub conversation : Conversation limits seat moment ask old new response

pub record IsCutShort (limits : Limits) (seat moment : ℕ) (old new : History) (request : Request) : Type 0 where
  pub ask : Ask
  pub route : asked_of request ≡ Ok ask
  pub interrupted : Interrupted limits seat moment ask old new

-- memory ran out, at any point of it
pub record WantsMemory (limits : Limits) (seat moment : ℕ) (old new : History) (request : Request) (response : Response) : Type 0 where
  pub asked : (new ≡ old) ⊎ IsCutShort limits seat moment old new request
  pub is : response ≡ Fault fault.NoMemory

-- what a request asks for, and its response
abbrev pub Responds : Limits → ℕ → ℕ → History → History → Request → Response → Type 0
Responds limits seat moment old new request response =
    IsFault old new request response
    ⊎ (IsDone limits seat moment old new request response ⊎ WantsMemory limits seat moment old new request response)

-- a request, the connection's moment at it, its response, and whether that was written whole
pub record Exchange : Type 0 where
  pub request : Request
  pub moment : ℕ
  pub response : Response
  pub written : Bool

-- one call of help, and then one of the tidying
pub record HelpsAndTidies (helped tidied : Call) (limits : Limits) (seat moment : ℕ) (old new : History) : Type 0 where
  pub between : History
  pub help : helped moment old between
  pub helps : GrowsBeside seat 4 moment old between
  pub tidy : tidied moment between new
  pub tidies : GrowsBeside seat (4 + 2 * applied (state_of limits between)) moment between new

-- What a request leaves after its answer: help and tidying are called once each, in this order, after each response that was written
-- whole, and after one that wasn't nothing is added.
abbrev pub Tended : Call → Call → Limits → ℕ → ℕ → Bool → History → History → Type 0
Tended helped tidied limits seat moment true old new = HelpsAndTidies helped tidied limits seat moment old new
Tended helped tidied limits seat moment false old new = new ≡ old

-- the response, and what the request leaves after it
pub record Served (helped tidied : Call) (limits : Limits) (seat : ℕ) (old new : History) (x : Exchange) : Type 0 where
  pub answered : History
  pub responds : Responds limits seat x.moment old answered x.request x.response
  pub tended : Tended helped tidied limits seat x.moment x.written answered new

-- The history goes from old to new while a seat serves these requests with these responses.
abbrev pub Serves : Call → Call → Limits → ℕ → History → History → List Exchange → Type 0
Serves helped tidied limits seat old new [] = new ≡ old
Serves helped tidied limits seat old new (x ∷ served) =
    (mid : History) × Served helped tidied limits seat old mid x × Serves helped tidied limits seat mid new served
