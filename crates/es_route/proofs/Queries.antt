-- The parameters of a query.
use Rattle.std.proofs.Common.{ℕ, List}
use Rattle.std.specs.Str.Lossy.{utf8_lossy}
use Rattle.form_urlencoded.specs.Form.{decode}
use Rattle.es_route.specs.declared.params.Param.{Param}

-- a pair of a query, decoded
abbrev pub param_of : List ℕ × List ℕ → Param
param_of pair = record { name = utf8_lossy (decode pair.0); value = utf8_lossy (decode pair.1) }
