-- What a buffer holds, and what a call makes of it and of the bytes that the link has left.
use Rattle.std.specs.Prelude.{◌≡◌, ◌≢◌, ℕ, ◌+◌, ◌<◌, ◌≤◌, List, [], ◌++◌, length, take, Option, Some, None, Result, Ok, Err}
use Rattle.http_wire.specs.declared.request.Request.{Request}
use Rattle.http_wire.specs.declared.wire.WireEnd.{WireEnd}
use Rattle.http_wire.specs.declared.wire.WireEnd.TheVariants.{Truncated, NotBuilt, ReadFault, TooMuch, NoMemory}
use Rattle.http_wire.specs.Requests.{Begins, IsUnfinished, IsRefused, HasNoRequest}

-- the bytes that were taken from the link and not yet used, and how many more may be taken
pub record Buffered : Type 0 where
  pub bytes : List ℕ
  pub room : ℕ

-- a call took these bytes from what the link had left
pub record Took (old : Buffered) (before after taken : List ℕ) : Type 0 where
  pub from : before ≡ taken ++ after
  pub within : length taken ≤ old.room

-- the bytes of the connection from here on, as far as they may be taken
abbrev pub stream_of : Buffered → List ℕ → List ℕ
stream_of held before = held.bytes ++ take held.room before

-- a request was taken from the front of what was held and read, whatever comes after that, and the rest is held
pub record Gave (old new : Buffered) (before : List ℕ) (left : Option (List ℕ)) (request : Request) : Type 0 where
  pub taken : List ℕ
  pub after : List ℕ
  pub took : Took old before after taken
  pub left_is : left ≡ Some after
  pub begins : (more : List ℕ) → Begins (old.bytes ++ taken ++ more) request (new.bytes ++ more)
  pub room : new.room + length taken ≡ old.room

-- why a call gave no request
abbrev pub HasEnded : Buffered → List ℕ → Option (List ℕ) → WireEnd → Type 0
-- the input ended inside a request, and nothing is left
HasEnded old before left Truncated =
    (length before ≤ old.room) × (old.bytes ++ before ≢ []) × IsUnfinished (old.bytes ++ before) × (left ≡ Some [])
-- the bytes begin with a head that is not taken
HasEnded old before left NotBuilt = IsRefused (stream_of old before)
-- a further byte is there, and may not be taken
HasEnded old before left TooMuch = (old.room < length before) × HasNoRequest (stream_of old before)
-- what was read until then has no whole request
HasEnded old before left ReadFault = (taken : List ℕ) × (after : List ℕ) × Took old before after taken × (left ≡ Some after) × HasNoRequest (old.bytes ++ taken)
HasEnded old before left NoMemory = Unit {0}

-- what a call gave, where the link tells the bytes that it had left
abbrev pub Next : Buffered → Buffered → List ℕ → Option (List ℕ) → Result (Option Request) WireEnd → Type 0
Next old new before left (Ok None) = (old.bytes ≡ []) × (before ≡ []) × (left ≡ Some [])
Next old new before left (Ok (Some request)) = Gave old new before left request
Next old new before left (Err end) = HasEnded old before left end

-- the same, where it tells them
abbrev pub NextOf : Buffered → Buffered → Option (List ℕ) → Option (List ℕ) → Result (Option Request) WireEnd → Type 0
NextOf old new None left result = Unit {0}
NextOf old new (Some before) left result = Next old new before left result

-- what was written: all of the bytes, or at a fault some first ones, and not all
abbrev pub Wrote : Option (List ℕ) → Option (List ℕ) → List ℕ → Type 0
Wrote None after bytes = Unit {0}
Wrote (Some written) after bytes = after ≡ Some (written ++ bytes)

abbrev pub WroteSome : Option (List ℕ) → Option (List ℕ) → List ℕ → Type 0
WroteSome None after bytes = Unit {0}
WroteSome (Some written) after bytes = (count : ℕ) × (count < length bytes) × (after ≡ Some (written ++ take count bytes))

-- how many bytes are held and may be taken: each request makes them fewer
abbrev pub size : Buffered → ℕ
size held = length held.bytes + held.room
