-- What requests for points in time ask for.
use Rattle.std.specs.Prelude.{ℕ, List, [], ◌∷◌, Option, Some, None, Result, Ok, Err}
use Rattle.es_types.specs.declared.limit.LimitName.TheVariants as limit
use Rattle.ctx_ids.specs.declared.id.ContextId.{ContextId}
use Rattle.ctx_ids.specs.declared.id.Kind.{Kind}
use Rattle.ctx_ids.specs.declared.id.Kind.TheVariants as kind
use Rattle.http_wire.specs.declared.request.Request.{Request}
use Rattle.doc_json.specs.declared.fault.BodyFault.{BodyFault}
use Rattle.reply_json.specs.declared.fault.RestFault.{RestFault}
use Rattle.reply_json.specs.declared.fault.RestFault.TheVariants as fault
use Rattle.es_route.specs.declared.ask.Ask.{Ask}
use Rattle.es_route.specs.declared.ask.Ask.TheVariants as ask
use Rattle.search_json.specs.Pits.{pit_close_of}
use Rattle.es_route.specs.Answers.{and_then}
use Rattle.es_route.specs.Paths.{index_in}
use Rattle.es_route.specs.declared.values.Key.TheVariants as key
use Rattle.es_route.specs.Values.{needed, read_params}
use Rattle.es_route.specs.Limits.{body_fault, first_with, index_name, told}
use Rattle.es_route.specs.Bodies.{empty_body}

abbrev pub opening_of : List ℕ → Option ℕ → Result Ask RestFault
opening_of index None = Err (fault.Limit (first_with (index_name index) limit.KeepAlive))
opening_of index (Some keep) = and_then (told (index_name index)) (λ name. Ok (ask.OpenPit name keep))

abbrev pub opening_asked : Request → Result Ask RestFault
opening_asked request =
    and_then (index_in request) (λ index. and_then (read_params (key.KeepAlive ∷ []) request.query) (λ values.
    and_then (needed key.KeepAlive values.keep) (λ keep. and_then (empty_body request) (λ none. opening_of index keep))))

abbrev pub number_by : Kind → ℕ → ℕ
number_by kind.Pit number = number
number_by other number = 0

-- the number of a point in time; an id of another kind has 0, which none has
abbrev pub pit_number : ContextId → ℕ
pit_number id = number_by id.kind id.number

abbrev pub closing_of : Result ContextId BodyFault → Result Ask RestFault
closing_of (Ok id) = Ok (ask.ClosePit (pit_number id))
closing_of (Err fault) = Err (body_fault fault)

abbrev pub closing_asked : Request → Result Ask RestFault
closing_asked request =
    and_then (read_params [] request.query) (λ values. closing_of (pit_close_of request.body))
