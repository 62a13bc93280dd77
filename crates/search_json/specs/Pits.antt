-- Which point in time a body names, and how long it is kept from then on (Elasticsearch's reference, "Point in time API"), and
-- which one is closed ("Close point in time").
use Rattle.std.specs.Prelude.{ℕ, nat_le, if◌then◌else◌, List, [], ◌∷◌, Bool, true, false, Option, Some, None, option_map, option_and_then, Result, Ok, Err, codes}
use Rattle.es_types.specs.declared.limits.TheConstants.{CONTEXT_KEEP}
use Rattle.serde_json.specs.Data.{Data}
use Rattle.serde_json.specs.Find.{as_str, get}
use Rattle.es_types.specs.Times.{keep_of}
use Rattle.ctx_ids.specs.declared.id.ContextId.{ContextId}
use Rattle.ctx_ids.specs.Ids.{id_of}
use Rattle.doc_json.specs.declared.fault.BodyFault.{BodyFault}
use Rattle.doc_json.specs.declared.fault.BodyFault.TheVariants.{BadId}
use Rattle.doc_json.specs.Json.{data_of, form_then, is_form, json_then}
use Rattle.search_json.specs.declared.pit.Keep.{Keep}
use Rattle.search_json.specs.declared.pit.Keep.TheVariants.{NotAsked, For, Broken}
use Rattle.search_json.specs.declared.pit.Named.{Named}

-- ---- times

abbrev pub at_most_a_day : Option ℕ → Option ℕ
at_most_a_day None = None
at_most_a_day (Some millis) = if nat_le millis CONTEXT_KEEP then Some millis else None

-- how long a text says that a point in time is kept, where it may be kept so long
unfoldable pub context_keep : List ℕ → Option ℕ
context_keep text = at_most_a_day (keep_of text)

abbrev pub keep_read : Option ℕ → Keep
keep_read None = Broken
keep_read (Some keep) = For keep

abbrev pub keep_at : Option Data → Option Keep
keep_at None = Some NotAsked
keep_at (Some value) = option_map (λ text. keep_read (context_keep text)) (as_str value)

-- how long a body asks that it is kept
unfoldable pub keep_in : Data → Option Keep
keep_in value = keep_at (get (codes "keep_alive") value)

abbrev pub is_broken : Keep → Bool
is_broken Broken = true
is_broken other = false

-- the time that is asked for, where one is
abbrev pub asked_keep : Keep → Option ℕ
asked_keep (For keep) = Some keep
asked_keep other = None

-- ---- points in time

-- the text of a member
unfoldable pub text_in : List ℕ → Data → Option (List ℕ)
text_in name value = option_and_then as_str (get name value)

abbrev pub named_by : List ℕ → Keep → Named
named_by id keep = record { id = id_of id; keep = keep }

-- an object of an `id`, which is a text, and perhaps a `keep_alive`, which is one too
unfoldable pub pit_in : Data → Option Named
pit_in value =
    if is_form (codes "id" ∷ codes "keep_alive" ∷ []) value
    then option_and_then (λ id. option_map (named_by id) (keep_in value)) (text_in (codes "id") value)
    else None

abbrev pub pit_at : Option Data → Option (Option Named)
pit_at None = Some None
pit_at (Some value) = option_map Some (pit_in value)

-- the point in time that a body names, if it names one
unfoldable pub pit_of : Data → Option (Option Named)
pit_of value = pit_at (get (codes "pit") value)

abbrev pub breaks_keep : Option Named → Bool
breaks_keep None = false
breaks_keep (Some named) = is_broken named.keep

-- ---- closing

abbrev pub id_told : Option ContextId → Result ContextId BodyFault
id_told None = Err BadId
id_told (Some id) = Ok id

-- the text of an object of an `id` alone
unfoldable pub closed_in : Data → Option (List ℕ)
closed_in value = if is_form (codes "id" ∷ []) value then text_in (codes "id") value else None

-- the id that a body says is closed
unfoldable pub pit_close_of : List ℕ → Result ContextId BodyFault
pit_close_of body = json_then (data_of body) (λ value. form_then (closed_in value) (λ id. id_told (id_of id)))
