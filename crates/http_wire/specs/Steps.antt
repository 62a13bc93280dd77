-- What the steps of a call say: which bytes came, and why no more did.
use Rattle.std.specs.Prelude.{◌≡◌, ℕ, ◌+◌, ◌<◌, ◌≤◌, Bool, true, false, List, [], ◌++◌, length, take, Option, Some, None, Result, Ok, Err}
use Rattle.es_types.specs.declared.limits.TheConstants.{HEAD_BYTES}
use Rattle.http_wire.specs.declared.wire.WireEnd.{WireEnd}
use Rattle.http_wire.specs.Heads.{head_len}
use Rattle.http_wire.specs.Requests.{HasNoRequest, IsUnfinished}
use Rattle.http_wire.specs.Stream.{Buffered, HasEnded}

-- these bytes were taken from what the link had left, where it tells that
abbrev pub CameFrom : Option (List ℕ) → Option (List ℕ) → List ℕ → Type 0
CameFrom None left taken = Unit {0}
CameFrom (Some before) left taken = (after : List ℕ) × (before ≡ taken ++ after) × (left ≡ Some after)

-- bytes came from the link, and are held after the others
pub record Came (old new : Buffered) (before left : Option (List ℕ)) : Type 0 where
  pub taken : List ℕ
  pub bytes : new.bytes ≡ old.bytes ++ taken
  pub room : new.room + length taken ≡ old.room
  pub told : CameFrom before left taken

-- nothing was left, and nothing is
abbrev pub IsDry : Option (List ℕ) → Option (List ℕ) → Type 0
IsDry None left = Unit {0}
IsDry (Some before) left = (before ≡ []) × (left ≡ Some [])

-- the end has this cause
abbrev pub EndedOf : Buffered → Option (List ℕ) → Option (List ℕ) → WireEnd → Type 0
EndedOf old None left end = Unit {0}
EndedOf old (Some before) left end = HasEnded old before left end

-- a read gave more bytes, or the input had ended, or a call ends here if what is held is no request
abbrev pub ReadMore : Buffered → Buffered → Option (List ℕ) → Option (List ℕ) → Result Bool WireEnd → Type 0
ReadMore old new before left (Ok true) = Came old new before left × (new.room < old.room)
ReadMore old new before left (Ok false) = IsDry before left
ReadMore old new before left (Err end) = HasNoRequest old.bytes → EndedOf old before left end

-- the same where no byte may be taken
abbrev pub Probed : Option (List ℕ) → Option (List ℕ) → Result Bool WireEnd → Type 0
Probed before left result =
    (old : Buffered) → old.room ≡ 0 → ReadMore old old before left result

-- neither a byte was held, nor any was left, nor is
abbrev pub IsNothing : Buffered → Option (List ℕ) → Option (List ℕ) → Type 0
IsNothing old None left = Unit {0}
IsNothing old (Some before) left = (old.bytes ≡ []) × (before ≡ []) × (left ≡ Some [])

-- a head of that length has come, whatever it says
abbrev pub HeadCame : Buffered → Buffered → Option (List ℕ) → Option (List ℕ) → Result (Option ℕ) WireEnd → Type 0
HeadCame old new before left (Ok None) = IsNothing old before left
HeadCame old new before left (Ok (Some n)) = Came old new before left × (head_len (take HEAD_BYTES new.bytes) ≡ Some n)
HeadCame old new before left (Err end) = EndedOf old before left end

-- less than that many bytes are an unfinished request
abbrev pub IsShort : List ℕ → ℕ → Type 0
IsShort bytes long = (more : List ℕ) → length (bytes ++ more) < long → IsUnfinished (bytes ++ more)

-- that many bytes are held, or the input ended before
abbrev pub BodyCame : Buffered → Buffered → Option (List ℕ) → Option (List ℕ) → ℕ → Result Unit WireEnd → Type 0
BodyCame old new before left long (Ok _) = Came old new before left × (long ≤ length new.bytes)
BodyCame old new before left long (Err end) = EndedOf old before left end
