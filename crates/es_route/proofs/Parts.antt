-- Parts of a path, and parameters of a query.
use Rattle.std.proofs.Common.{◌≡◌, refl, ap, ℕ, Bool, true, false, List, Result, Ok, Err}
use Rattle.std.specs.Prelude.{IsUtf8, if◌then◌else◌}
use Rattle.std.specs.Str.{is_utf8}
use Rattle.std.proofs.lemmas.Str.{IsUtf8-from_is_utf8, is_utf8-from_IsUtf8}
use Rattle.percent_encoding.specs.Percent.{percent_decode}
use Rattle.reply_json.specs.declared.fault.RestFault.{RestFault}
use Rattle.reply_json.specs.declared.fault.RestFault.TheVariants.{BadParam}
use Rattle.es_route.specs.Paths.{decoded}

-- a text, or a fault
abbrev text_or : Bool → List ℕ → List ℕ → Result (List ℕ) RestFault
text_or b name bytes = if b then Ok bytes else Err (BadParam name)

-- a part that is a text
pub decoded_ok : (name part : List ℕ) → IsUtf8 (percent_decode part) → decoded name part ≡ Ok (percent_decode part)
decoded_ok name part text = ap (λ b. text_or b name (percent_decode part)) (is_utf8-from_IsUtf8 (percent_decode part) text)

-- bytes that are no text are a fault
none_by : (name bytes : List ℕ) (b : Bool) → is_utf8 bytes ≡ b → (IsUtf8 bytes → ⊥) → text_or b name bytes ≡ Err (BadParam name)
none_by name bytes true is none = absurd (none (IsUtf8-from_is_utf8 bytes is))
none_by name bytes false is none = refl

-- a part that isn't one
pub decoded_err : (name part : List ℕ) → (IsUtf8 (percent_decode part) → ⊥) → decoded name part ≡ Err (BadParam name)
decoded_err name part none = none_by name (percent_decode part) (is_utf8 (percent_decode part)) refl none
