-- What the parts of a path say (RFC 3986).
use Rattle.std.specs.Prelude.{ℕ, zero, suc, ◌+◌, ◌==◌, Bool, false, if◌then◌else◌, List, [], ◌∷◌, take, drop, Option, Some, None, position, Result, Ok, Err, codes}
use Rattle.std.specs.Str.{is_utf8}
use Rattle.percent_encoding.specs.Percent.{percent_decode}
use Rattle.reply_json.specs.declared.fault.RestFault.{RestFault}
use Rattle.reply_json.specs.declared.fault.RestFault.TheVariants.{BadParam}
use Rattle.http_wire.specs.declared.request.Request.{Request}

abbrev pub slash : ℕ
slash = 47

abbrev pub up_to : Option ℕ → List ℕ → List ℕ
up_to None path = path
up_to (Some at) path = take at path

abbrev pub beyond : Option ℕ → List ℕ → List ℕ
beyond None path = []
beyond (Some at) path = drop (at + 1) path

-- the bytes after so many slashes, up to the next one
abbrev pub part : ℕ → List ℕ → List ℕ
part zero path = up_to (position (λ b. b == slash) path) path
part (suc count) path = part count (beyond (position (λ b. b == slash) path) path)

-- the part without its escapes, where that is a text; else the fault names the parameter
abbrev pub decoded : List ℕ → List ℕ → Result (List ℕ) RestFault
decoded name part = if is_utf8 (percent_decode part) then Ok (percent_decode part) else Err (BadParam name)

abbrev pub index_in : Request → Result (List ℕ) RestFault
index_in request = decoded (codes "index") (part 1 request.path)

abbrev pub id_in : Request → Result (List ℕ) RestFault
id_in request = decoded (codes "id") (part 3 request.path)

-- the service's own words begin with a low line
abbrev pub is_own_word : List ℕ → Bool
is_own_word [] = false
is_own_word (b ∷ bytes) = b == 95
