-- Which texts are JSON objects (RFC 8259), as `serde_json` reads them.
use Rattle.std.specs.Prelude.{◌≡◌, ℕ, List, Some, IsUtf8, All}
use Rattle.es_types.specs.declared.row.Row.{Row}
use Rattle.es_types.specs.declared.row.Op.{Op}
use Rattle.es_types.specs.declared.row.Op.TheVariants.{Put, Remove}
use Rattle.serde_json.specs.Data.{Members, object}
use Rattle.serde_json.specs.Read.{read}

-- the bytes are a text, and that text is an object
pub record IsObject (bytes : List ℕ) : Type 0 where
  pub text : IsUtf8 bytes
  pub members : Members
  pub reads : read bytes ≡ Some (object members)

-- a put has an object
abbrev pub PutsObjectOp : Op → Type 0
PutsObjectOp (Put id source values) = IsObject source
PutsObjectOp (Remove id) = Unit {0}

-- each row of these has an object
abbrev pub AreObjects : List Row → Type 0
AreObjects rows = All (λ (row : Row). IsObject row.source) rows
