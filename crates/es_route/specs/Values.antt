-- The values that a query gives for the parameters that a route takes.
use Rattle.std.specs.Prelude.{ℕ, ◌||◌, Bool, true, false, bytes_eq, if◌then◌else◌, List, [], ◌∷◌, Option, Some, None, option_and_then, option_map, Result, Ok, Err, codes}
use Rattle.http_wire.specs.Heads.{number_of}
use Rattle.search_json.specs.Pits.{context_keep}
use Rattle.reply_json.specs.declared.fault.RestFault.{RestFault}
use Rattle.reply_json.specs.declared.fault.RestFault.TheVariants.{BadParam}
use Rattle.es_route.specs.declared.params.Param.{Param}
use Rattle.es_route.specs.declared.values.Key.{Key}
use Rattle.es_route.specs.declared.values.Key.TheVariants.{Batch, KeepAlive, Refresh}
use Rattle.es_route.specs.declared.values.Values.{Values}
use Rattle.es_route.specs.Params.{params_of}

-- the name of a parameter
abbrev pub key_text : Key → List ℕ
key_text Refresh = codes "refresh"
key_text Batch = codes "batched_reduce_size"
key_text KeepAlive = codes "keep_alive"

-- which of the parameters that are taken has this name
abbrev pub key_of : List Key → List ℕ → Option Key
key_of [] name = None
key_of (key ∷ taken) name = if bytes_eq name (key_text key) then Some key else key_of taken name

-- ---- values

-- whether a value of `refresh` asks for a refresh
abbrev pub refresh_value : List ℕ → Option Bool
refresh_value value =
    if bytes_eq value [] || bytes_eq value (codes "true") || bytes_eq value (codes "wait_for") then Some true
    else (if bytes_eq value (codes "false") then Some false else None)

-- the number that 1 to 9 decimal digits are
abbrev pub batch_value : List ℕ → Option ℕ
batch_value text = number_of 9 999999999 text

-- a value that isn't the second one
abbrev pub once : {A : Type 0} → Option A → Option A → Option A
once None value = value
once (Some before) value = None

-- with one more value, unless its parameter has one, or this is none
abbrev pub with_value : Values → Key → List ℕ → Option Values
with_value values Refresh text =
    option_map (λ value. let v : Values = record { refresh = Some value; batch = values.batch; keep = values.keep } in v) (once values.refresh (refresh_value text))
with_value values Batch text =
    option_map (λ value. let v : Values = record { refresh = values.refresh; batch = Some value; keep = values.keep } in v) (once values.batch (batch_value text))
with_value values KeepAlive text =
    option_map (λ value. let v : Values = record { refresh = values.refresh; batch = values.batch; keep = Some value } in v) (once values.keep (Some (context_keep text)))

-- ---- a query

-- with the value of a parameter, where it is taken
abbrev pub with_param : List Key → Values → Param → Option Values
with_param taken values param = option_and_then (λ key. with_value values key param.value) (key_of taken param.name)

abbrev pub value_or_fault : {A : Type 0} → Option A → (A → Result A RestFault) → RestFault → Result A RestFault
value_or_fault None more fault = Err fault
value_or_fault (Some value) more fault = more value

-- The values that these parameters give, besides those that were given before them: the first that isn't taken, stands there
-- again or has no such value is a fault.
abbrev pub values_in : List Key → Values → List Param → Result Values RestFault
values_in taken values [] = Ok values
values_in taken values (param ∷ params) = value_or_fault (with_param taken values param) (λ more. values_in taken more params) (BadParam param.name)

-- the values that a query gives for the parameters that are taken
abbrev pub read_params : List Key → List ℕ → Result Values RestFault
read_params taken query = values_in taken (record { refresh = None; batch = None; keep = None }) (params_of query)

-- a value that is needed
abbrev pub needed : {A : Type 0} → Key → Option A → Result A RestFault
needed key None = Err (BadParam (key_text key))
needed key (Some value) = Ok value
