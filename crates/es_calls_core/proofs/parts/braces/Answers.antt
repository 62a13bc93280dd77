-- Two braces are an object without members.
use Rattle.std.proofs.Common.{◌≡◌, ◌<◌, ℕ, zero, suc, ◌∙◌, sym, subst, refl, arith, [], ◌∷◌, Some}
use Rattle.std.specs.Prelude.{slice_index}
use Rattle.std.proofs.lemmas.Str.{IsUtf8-from_ascii}
use Rattle.json.specs.Json.{value, members}
use Rattle.json.specs.Lex.{lex, punctuate}
use Rattle.serde_json.specs.Data.{object, no_members}
use Rattle.serde_json.specs.Read.{read}
use Rattle.list_machine.specs.Objects.{IsObject}
use Rattle.es_calls_core.proofs.parts.braces.Goals as goal

ascii : (i : ℕ) → slice_index (123 ∷ 125 ∷ []) i < 128
ascii zero = omega arith
ascii (suc zero) = omega arith
ascii (suc (suc i)) = omega arith

reads : read (123 ∷ 125 ∷ []) ≡ Some (object no_members)
unfolding value members lex punctuate
reads = refl

pub returns : goal.returns
returns c = subst IsObject (sym (c.of.ensures ∙ c.in_ok-from_slice.ensures.items)) (record { text = IsUtf8-from_ascii _ ascii; members = no_members; reads = reads })
