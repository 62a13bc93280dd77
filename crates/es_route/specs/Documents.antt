-- What requests for an index and its documents ask for.
use Rattle.std.specs.Prelude.{ℕ, Bool, false, List, [], ◌∷◌, Option, Some, unwrap_or, Result, Ok, Err}
use Rattle.es_types.specs.declared.doc.Doc.{Doc}
use Rattle.http_wire.specs.declared.request.Request.{Request}
use Rattle.doc_json.specs.declared.fault.BodyFault.{BodyFault}
use Rattle.doc_json.specs.declared.fault.BodyFault.TheVariants as body
use Rattle.doc_json.specs.declared.index.IndexSpec.{IndexSpec}
use Rattle.doc_json.specs.Documents.{doc_of}
use Rattle.doc_json.specs.Indexes.{index_of}
use Rattle.reply_json.specs.declared.fault.RestFault.{RestFault}
use Rattle.reply_json.specs.declared.fault.RestFault.TheVariants as fault
use Rattle.es_route.specs.declared.ask.Ask.{Ask}
use Rattle.es_route.specs.declared.ask.Ask.TheVariants as ask
use Rattle.es_route.specs.Answers.{and_then}
use Rattle.es_route.specs.Paths.{id_in, index_in}
use Rattle.es_route.specs.declared.values.Key.TheVariants as key
use Rattle.es_route.specs.Values.{read_params}
use Rattle.es_route.specs.Limits.{body_fault, first_with, index_name, named, told}
use Rattle.es_route.specs.Bodies.{no_body, some_body}
use Rattle.es_route.specs.Items.{actions_of, checked}

-- a body that isn't one comes before all limits
abbrev pub create_of : List ℕ → Result IndexSpec BodyFault → Result Ask RestFault
create_of index (Ok spec) = and_then (told (index_name index)) (λ name. Ok (ask.Create name spec))
create_of index (Err (body.Limit name)) = Err (fault.Limit (first_with (index_name index) name))
create_of index (Err other) = Err (body_fault other)

abbrev pub put_of : List ℕ → List ℕ → Bool → Result Doc BodyFault → Result Ask RestFault
put_of index id refresh (Ok doc) = and_then (named index id) (λ it. Ok (ask.Put it.0 it.1 doc refresh))
put_of index id refresh (Err fault) = Err (body_fault fault)

abbrev pub remove_of : List ℕ → List ℕ → Bool → Result Ask RestFault
remove_of index id refresh = and_then (named index id) (λ it. Ok (ask.Remove it.0 it.1 refresh))

abbrev pub create_asked : Request → Result Ask RestFault
create_asked request =
    and_then (index_in request) (λ index. and_then (read_params [] request.query) (λ values.
    create_of index (index_of request.body)))

abbrev pub put_asked : Request → Result Ask RestFault
put_asked request =
    and_then (index_in request) (λ index. and_then (id_in request) (λ id.
    and_then (read_params (key.Refresh ∷ []) request.query) (λ values. put_of index id (unwrap_or values.refresh false) (doc_of request.body))))

abbrev pub remove_asked : Request → Result Ask RestFault
remove_asked request =
    and_then (index_in request) (λ index. and_then (id_in request) (λ id.
    and_then (read_params (key.Refresh ∷ []) request.query) (λ values. and_then (no_body request) (λ none.
    remove_of index id (unwrap_or values.refresh false)))))

abbrev pub bulk_asked : Option (List ℕ) → Request → Result Ask RestFault
bulk_asked index request =
    and_then (read_params (key.Refresh ∷ []) request.query) (λ values. and_then (some_body request) (λ some.
    and_then (checked (actions_of index request.body)) (λ items. Ok (ask.Bulk index request.body (unwrap_or values.refresh false) items))))

abbrev pub index_bulk_asked : Request → Result Ask RestFault
index_bulk_asked request = and_then (index_in request) (λ index. bulk_asked (Some index) request)

abbrev pub refresh_asked : Request → Result Ask RestFault
refresh_asked request =
    and_then (index_in request) (λ index. and_then (read_params [] request.query) (λ values.
    and_then (no_body request) (λ none. and_then (told (index_name index)) (λ name. Ok (ask.Refresh name)))))
