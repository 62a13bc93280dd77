-- The texts of contexts' ids. A text is base64 (RFC 4648), with the URL-safe alphabet and no padding, of a letter for the kind
-- and the number in eight bytes, the greatest first.
use Rattle.std.specs.Prelude.{ℕ, ◌≤◌, ◌==◌, ◌&&◌, nat_le, if◌then◌else◌, List, ◌∷◌, length, drop, slice_index, Option, Some, None, Result, Ok, Err}
use Rattle.std.specs.Int.{w64, from_be_bytes, to_be_bytes}
use Rattle.es_types.specs.declared.limits.TheConstants.{MOST_ENTRIES}
use Rattle.base64.specs.GeneralPurpose.{decode_of, encode_of}
use Rattle.base64.specs.Engines.{url_safe_no_pad}
use Rattle.base64.specs.declared.decode.DecodeError.{DecodeError}
use Rattle.ctx_ids.specs.declared.id.ContextId.{ContextId}
use Rattle.ctx_ids.specs.declared.id.Kind.{Kind}
use Rattle.ctx_ids.specs.declared.id.Kind.TheVariants.{Pit, Scroll, Task}

-- an id that there can be
pub record IsId (id : ContextId) : Type 0 where
  pub some : 1 ≤ id.number
  pub most : id.number ≤ MOST_ENTRIES

-- `P`, `S` and `A`
abbrev pub letter_of : Kind → ℕ
letter_of Pit = 80
letter_of Scroll = 83
letter_of Task = 65

abbrev pub kind_of : ℕ → Option Kind
kind_of letter =
    if letter == 80 then Some Pit else
    (if letter == 83 then Some Scroll else
    (if letter == 65 then Some Task else None))

abbrev pub id_bytes : ContextId → List ℕ
id_bytes id = letter_of id.kind ∷ to_be_bytes w64 id.number

-- the text of an id
unfoldable pub text_of : ContextId → List ℕ
text_of id = encode_of url_safe_no_pad (id_bytes id)

-- the id of that number, where there can be one
abbrev pub id_with : Option Kind → ℕ → Option ContextId
id_with None number = None
id_with (Some kind) number =
    if nat_le 1 number && nat_le number MOST_ENTRIES then Some (record { kind = kind; number = number }) else None

-- the id that these bytes are
abbrev pub id_in : List ℕ → Option ContextId
id_in bytes =
    if length bytes == 9 then id_with (kind_of (slice_index bytes 0)) (from_be_bytes w64 (drop 1 bytes)) else None

abbrev pub id_read : Result (List ℕ) DecodeError → Option ContextId
id_read (Ok bytes) = id_in bytes
id_read (Err e) = None

-- the id that has this text
unfoldable pub id_of : List ℕ → Option ContextId
id_of text = id_read (decode_of url_safe_no_pad text)
