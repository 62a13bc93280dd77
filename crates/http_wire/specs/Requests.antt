-- A request, and which requests the bytes of a connection are.
use Rattle.std.specs.Prelude.{◌≡◌, ◌⊎◌, ℕ, ◌+◌, ◌<◌, ◌≤◌, false, List, [], ◌∷◌, ◌++◌, length, take, Some, None}
use Rattle.es_types.specs.declared.limits.TheConstants.{HEAD_BYTES}
use Rattle.http_wire.specs.declared.request.Request.{Request}
use Rattle.http_wire.specs.Heads.{Head, IsHead, head_len, path_of, query_of}

-- the first bytes of the stream are a head
pub record BeginsWithHead (stream : List ℕ) (bytes : List ℕ) (head : Head) : Type 0 where
  pub ends : head_len (take HEAD_BYTES stream) ≡ Some (length bytes)
  pub first : take (length bytes) stream ≡ bytes
  pub is : IsHead bytes head

-- the request that a head and a body are
abbrev pub request_of : Head → List ℕ → Request
request_of head body = record {
  method = head.method;
  path = path_of head.target;
  query = query_of head.target;
  moment = head.moment;
  body = body;
  last = false;
}

-- the stream is the bytes of a request, and then the rest
pub record Begins (stream : List ℕ) (request : Request) (rest : List ℕ) : Type 0 where
  pub bytes : List ℕ
  pub body : List ℕ
  pub head : Head
  pub begins : BeginsWithHead stream bytes head
  pub long : length body ≡ head.body
  pub is : stream ≡ bytes ++ body ++ rest
  pub request_is : request ≡ request_of head body

-- the stream is less than a whole head, or a head and less than its body
abbrev pub IsUnfinished : List ℕ → Type 0
IsUnfinished stream =
    ((head_len stream ≡ None) × (length stream < HEAD_BYTES))
    ⊎ ((bytes : List ℕ) × (head : Head) × BeginsWithHead stream bytes head × (length stream < length bytes + head.body))

-- The stream begins with no head that is taken: no head ends in time, or the first is none of those.
abbrev pub IsRefused : List ℕ → Type 0
IsRefused stream =
    ((head_len (take HEAD_BYTES stream) ≡ None) × (HEAD_BYTES ≤ length stream))
    ⊎ ((n : ℕ) × (head_len (take HEAD_BYTES stream) ≡ Some n) × ((head : Head) → IsHead (take n stream) head → ⊥))

-- the stream is these requests in turn, and then the rest
abbrev pub Spells : List ℕ → List Request → List ℕ → Type 0
Spells stream [] rest = stream ≡ rest
Spells stream (request ∷ requests) rest = (more : List ℕ) × Begins stream request more × Spells more requests rest

-- nothing whole stands at the front: no request, or nothing that is taken
abbrev pub HasNoRequest : List ℕ → Type 0
HasNoRequest bytes = (bytes ≡ []) ⊎ IsUnfinished bytes

abbrev pub IsEnd : List ℕ → Type 0
IsEnd bytes = HasNoRequest bytes ⊎ IsRefused bytes
