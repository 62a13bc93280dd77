-- The parameters of a query (the URL Standard's forms).
use Rattle.std.specs.Prelude.{ℕ, Bool, bytes_eq, List, map}
use Rattle.std.specs.Str.Lossy.{utf8_lossy}
use Rattle.std.specs.List.{list_any}
use Rattle.form_urlencoded.specs.Form.{decode, raw_pairs}
use Rattle.es_route.specs.declared.params.Param.{Param}

-- the names and values of a query in turn; what is no text has U+FFFD in place of what is none
abbrev pub params_of : List ℕ → List Param
params_of query = map (λ (pair : List ℕ × List ℕ). let p : Param = record { name = utf8_lossy (decode pair.0); value = utf8_lossy (decode pair.1) } in p) (raw_pairs query)

abbrev pub has_param : List ℕ → List Param → Bool
has_param name params = list_any (λ param. bytes_eq param.name name) params
