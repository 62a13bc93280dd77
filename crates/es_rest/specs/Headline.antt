-- What a call that serves a connection did.
use Rattle.std.specs.Prelude.{◌≡◌, ◌≢◌, ◌⊎◌, ℕ, ◌<◌, ◌≤◌, true, false, List, [], ◌∷◌, ◌++◌, length, take, map, flat_map, Option, Some, None, All, max}
use Rattle.es_types.specs.declared.limits.TheConstants.{CONNECTION_BYTES}
use Rattle.http_wire.specs.declared.request.Request.{Request}
use Rattle.http_wire.specs.Requests.{HasNoRequest, IsRefused, IsUnfinished, Spells}
use Rattle.list_machine.specs.declared.event.Limits.{Limits}
use Rattle.list_machine.specs.Run.{History}
use Rattle.list_machine.specs.Pages.{Enumerates}
use Rattle.list_machine.specs.Serving.{Call}
use Rattle.es_rest.specs.declared.connection.ConnEnd.{ConnEnd}
use Rattle.es_rest.specs.declared.connection.ConnEnd.TheVariants.{Done, Refused, ReadFault, WriteFault, NoMemory, Truncated, TooMuch}
use Rattle.reply_json.specs.declared.response.Response.TheVariants.{Fault}
use Rattle.reply_json.specs.declared.fault.RestFault.TheVariants as fault
use Rattle.reply_json.specs.Replies.{text}
use Rattle.es_rest.specs.Moments.{AsksOnce, moments_of}
use Rattle.es_rest.specs.Talk.{Exchange, Serves}

abbrev pub requests_of : List Exchange → List Request
requests_of served = map (λ (x : Exchange). x.request) served

-- ---- the bytes that were read

-- what the bytes that are left of a connection say of its end, where some more stand after them or not
abbrev pub EndsWith : List ℕ → List ℕ → ConnEnd → Type 0
EndsWith bytes rest Done = (length bytes ≤ CONNECTION_BYTES) × (rest ≡ [])
EndsWith bytes rest Truncated = (length bytes ≤ CONNECTION_BYTES) × (rest ≢ []) × IsUnfinished rest
EndsWith bytes rest Refused = IsRefused rest
EndsWith bytes rest TooMuch = (CONNECTION_BYTES < length bytes) × HasNoRequest rest
EndsWith bytes rest end = Unit {0}

-- The bytes begin with these requests, and after them stands what ended the connection.
pub record Cuts (bytes : List ℕ) (requests : List Request) (end : ConnEnd) : Type 0 where
  pub rest : List ℕ
  pub spells : Spells (take CONNECTION_BYTES bytes) requests rest
  pub ends : EndsWith bytes rest end

-- The bytes that were taken are these requests, and after them no whole one.
pub record TookAll (bytes : List ℕ) (left : Option (List ℕ)) (requests : List Request) : Type 0 where
  pub taken : List ℕ
  pub after : List ℕ
  pub rest : List ℕ
  pub from : bytes ≡ taken ++ after
  pub left_is : left ≡ Some after
  pub spells : Spells taken requests rest
  pub no_more : HasNoRequest rest

-- What the link has left: nothing where its input ended, and at a read fault no whole request was taken that wasn't served.
abbrev pub Leaves : List ℕ → Option (List ℕ) → List Request → ConnEnd → Type 0
Leaves bytes left requests Done = left ≡ Some []
Leaves bytes left requests Truncated = left ≡ Some []
Leaves bytes left requests ReadFault = TookAll bytes left requests
Leaves bytes left requests end = Unit {0}

-- where the link tells what was left before the call
abbrev pub ReadsFrom : Option (List ℕ) → Option (List ℕ) → List Request → ConnEnd → Type 0
ReadsFrom None left requests end = Unit {0}
ReadsFrom (Some bytes) left requests end = Cuts bytes requests end × Leaves bytes left requests end

-- ---- which responses were written

-- each response was written whole
abbrev pub AreWhole : List Exchange → Type 0
AreWhole served = All (λ (x : Exchange). x.written ≡ true) served

-- each but the last was, and the last one wasn't
pub record IsLastCut (served : List Exchange) : Type 0 where
  pub first : List Exchange
  pub last : Exchange
  pub served_are : served ≡ first ++ last ∷ []
  pub whole : AreWhole first
  pub cut : last.written ≡ false

-- all were, or at a write fault all but perhaps the last, whatever the link tells
abbrev pub AreWritten : List Exchange → ConnEnd → Type 0
AreWritten served WriteFault = AreWhole served ⊎ IsLastCut served
AreWritten served end = AreWhole served

-- ---- the bytes that were written

-- the texts of the responses in turn
abbrev pub texts_of : List Exchange → List ℕ
texts_of served = flat_map (λ (x : Exchange). text x.response x.request.last) served

-- what is written at an end of its own accord: a refused head closes the connection, and so does memory that ran out
abbrev pub last_words : ConnEnd → List ℕ
last_words Refused = text (Fault fault.NotBuilt) true
last_words NoMemory = text (Fault fault.NoMemory) true
last_words end = []

-- these texts were written, and of the next words some first bytes and not all
pub record IsCut (written : List ℕ) (after : Option (List ℕ)) (texts words : List ℕ) : Type 0 where
  pub count : ℕ
  pub short : count < length words
  pub is : after ≡ Some (written ++ (texts ++ take count words))

-- the responses to all but the last request were written, and its own was cut
pub record IsCutInResponse (written : List ℕ) (after : Option (List ℕ)) (served : List Exchange) : Type 0 where
  pub at : IsLastCut served
  pub cut : IsCut written after (texts_of at.first) (text at.last.response at.last.request.last)

-- all responses were written, and the words of an end were cut, which the bytes gave, or memory that ran out
pub record IsCutAtEnd (left left_after : Option (List ℕ)) (written : List ℕ) (after : Option (List ℕ)) (served : List Exchange) : Type 0 where
  pub aim : ConnEnd
  pub whole : AreWhole served
  pub reads : ReadsFrom left left_after (requests_of served) aim
  pub cut : IsCut written after (texts_of served) (last_words aim)

-- all of it was written, or at a fault some first bytes
abbrev pub WroteWords : Option (List ℕ) → Option (List ℕ) → List ℕ → Option (List ℕ) → List Exchange → ConnEnd → Type 0
WroteWords left left_after written after served WriteFault =
    IsCutInResponse written after served ⊎ IsCutAtEnd left left_after written after served
WroteWords left left_after written after served end = after ≡ Some (written ++ (texts_of served ++ last_words end))

-- where the link tells what was written before the call
abbrev pub WritesTo : Option (List ℕ) → Option (List ℕ) → Option (List ℕ) → Option (List ℕ) → List Exchange → ConnEnd → Type 0
WritesTo left left_after None after served end = Unit {0}
WritesTo left left_after (Some written) after served end = WroteWords left left_after written after served end

-- ---- the moments

-- the moments never fall
abbrev pub NeverFalls : ℕ → List Exchange → Type 0
NeverFalls from [] = Unit {0}
NeverFalls from (x ∷ served) = (from ≤ x.moment) × NeverFalls x.moment served

-- Where the clock tells its last answer, it answers a request by what that hands in, where it is readable, and else by the answer
-- before; and the moment is the greatest of its answers in this call until then.
abbrev pub FollowClock : Option ℕ → List Exchange → Type 0
FollowClock None served = Unit {0}
FollowClock (Some last) served = map (λ (x : Exchange). x.moment) served ≡ moments_of last 0 (requests_of served)

-- the moment of the last one
abbrev pub latest : ℕ → List Exchange → ℕ
latest from [] = from
latest from (x ∷ served) = latest x.moment served

-- Whatever clock it is, whose greatest answers before and after the call are these: the moment is the greatest that it answered in
-- the call.
pub record AreMoments (last : Option ℕ) (begun greatest : ℕ) (served : List Exchange) : Type 0 where
  pub never_fall : NeverFalls 0 served
  pub bounded : All (λ (x : Exchange). x.moment ≤ greatest) served
  pub greatest_is : greatest ≡ max begun (latest 0 served)
  pub told : FollowClock last served

-- Each request asks the clock once, with what it hands in, and nothing else leads the clock from one state to another.
abbrev pub AsksEach : {S : Type 0} → (S → Option ℕ → ℕ → S → Type 0) → ℕ → S → List Exchange → S → Type 0
AsksEach asked from old [] new = new ≡ old
AsksEach {S} asked from old (x ∷ served) new =
    (next : S) × AsksOnce asked old next x.request from x.moment × AsksEach asked x.moment next served new

-- ---- the whole

-- Each response is what a plain machine of one thread over lists answers at that request's place in one history,
-- and pages taken in turn are a prefix of the sorted matching documents of their frozen view, and all of them at
-- the end.
pub record Headline (helped tidied : Call) (limits : Limits) (seat : ℕ) (old new : History) (left left_after written written_after : Option (List ℕ)) {S : Type 0} (asked : S → Option ℕ → ℕ → S → Type 0) (clock clock_after : S) (last : Option ℕ) (begun greatest : ℕ) (end : ConnEnd) : Type 0 where
  pub served : List Exchange
  pub serves : Serves helped tidied limits seat old new served
  pub enumerates : Enumerates limits new
  pub reads : ReadsFrom left left_after (requests_of served) end
  pub writes : WritesTo left left_after written written_after served end
  pub moments : AreMoments last begun greatest served
  pub asks : AsksEach asked 0 clock served clock_after
  pub marks : AreWritten served end
