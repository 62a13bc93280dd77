-- Bytes as JSON (RFC 8259), as `serde_json` reads them, and what all bodies have in common.
use Rattle.std.specs.Prelude.{ℕ, suc, ◌==◌, ◌||◌, Bool, false, if◌then◌else◌, List, [], ◌∷◌, reverse, count_by, is_some, Option, Some, None, Result, Err}
use Rattle.std.specs.Option.{option_map_or}
use Rattle.std.specs.Str.{is_utf8}
use Rattle.serde_json.specs.Data.{Data, Members, no_members, member}
use Rattle.serde_json.specs.Read.{read}
use Rattle.serde_json.specs.Find.{get, as_object}
use Rattle.doc_json.specs.declared.fault.BodyFault.{BodyFault}
use Rattle.doc_json.specs.declared.fault.BodyFault.TheVariants.{NotJson, Shape}

-- a space, a tab, a line feed or a carriage return
abbrev pub is_white : ℕ → Bool
is_white b = b == 32 || (b == 9 || (b == 10 || b == 13))

abbrev pub skip_white : List ℕ → List ℕ
skip_white [] = []
skip_white (b ∷ bytes) = if is_white b then skip_white bytes else b ∷ bytes

-- the bytes without white space at the ends
abbrev pub trimmed : List ℕ → List ℕ
trimmed bytes = reverse (skip_white (reverse (skip_white bytes)))

-- what the bytes are, where they are a text that is JSON
unfoldable pub data_of : List ℕ → Option Data
data_of bytes = if is_utf8 bytes then read bytes else None

abbrev pub count_of : Members → ℕ
count_of no_members = 0
count_of (member key value rest) = suc (count_of rest)

-- an object has no members but those of these names: as many as it has of them
abbrev pub is_form : List (List ℕ) → Data → Bool
is_form names value =
    option_map_or (λ members. count_of members == count_by (λ name. is_some (get name value)) names) (as_object value) false

-- the value of the only member of an object, where that has this name
abbrev pub only_member : List ℕ → Data → Option Data
only_member name value = if is_form (name ∷ []) value then get name value else None

-- what follows from JSON
abbrev pub json_then : {A : Type 0} → Option Data → (Data → Result A BodyFault) → Result A BodyFault
json_then None next = Err NotJson
json_then (Some value) next = next value

-- what follows from a part that has its form
abbrev pub form_then : {A B : Type 0} → Option A → (A → Result B BodyFault) → Result B BodyFault
form_then None next = Err Shape
form_then (Some part) next = next part
