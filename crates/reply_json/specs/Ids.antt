-- The texts of ids.
use Rattle.std.specs.Prelude.{ℕ, List}
use Rattle.ctx_ids.specs.declared.id.Kind.{Kind}
use Rattle.ctx_ids.specs.Ids.{text_of}

abbrev pub id_text : Kind → ℕ → List ℕ
id_text kind number = text_of (record { kind = kind; number = number })
