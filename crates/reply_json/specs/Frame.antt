-- A response around its body (RFC 9112, 4 and 6).
use Rattle.std.specs.Prelude.{ℕ, Bool, if◌then◌else◌, List, [], ◌∷◌, ◌++◌, length, codes, decimal}
use Rattle.http.specs.StatusCode.{status_text}
use Rattle.reply_json.specs.Pieces.{joined}

abbrev pub crlf : List ℕ
crlf = 13 ∷ 10 ∷ []

-- the line that says that the connection ends
abbrev pub close_line : Bool → List ℕ
close_line last = if last then codes "connection: close" ++ crlf else []

unfoldable pub frame : ℕ → List ℕ → Bool → List ℕ
frame status body last =
    joined (codes "HTTP/1.1 " ∷ status_text status ∷ crlf ∷ codes "content-type: application/json" ∷ crlf ∷
    codes "content-length: " ∷ decimal (length body) ∷ crlf ∷ close_line last ∷ crlf ∷ body ∷ [])
