-- What bytes are as JSON, by what the reader answers.
use Rattle.std.proofs.Common.{◌≡◌, ℕ, Bool, true, false, cond, List, None, refl, ap}
use Rattle.std.specs.Str.{IsUtf8, is_utf8}
use Rattle.std.proofs.lemmas.Str.{IsUtf8-from_is_utf8, is_utf8-from_IsUtf8}
use Rattle.serde_json.specs.Read.{read}
use Rattle.doc_json.specs.Json.{data_of}

-- text is what it reads as
pub data_text : (bytes : List ℕ) → IsUtf8 bytes → data_of bytes ≡ read bytes
unfolding data_of
data_text bytes text = ap (λ b. cond b (read bytes) None) (is_utf8-from_IsUtf8 bytes text)

refused : (bytes : List ℕ) (b : Bool) → is_utf8 bytes ≡ b → (IsUtf8 bytes → read bytes ≡ None) → cond b (read bytes) None ≡ None
refused bytes true is none = none (IsUtf8-from_is_utf8 bytes is)
refused bytes false is none = refl

-- what is no text, or reads as nothing, is nothing
pub data_none : (bytes : List ℕ) → (IsUtf8 bytes → read bytes ≡ None) → data_of bytes ≡ None
unfolding data_of
data_none bytes none = refused bytes (is_utf8 bytes) refl none
