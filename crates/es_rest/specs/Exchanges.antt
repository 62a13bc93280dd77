-- What one request and its response make of a connection, and how a connection is closed.
use Rattle.std.specs.Prelude.{◌≡◌, ◌⊎◌, ℕ, max, Bool, List, Option, Some, None, Result, Ok, Err}
use Rattle.std.specs.Result.{is_ok}
use Rattle.http_wire.specs.declared.request.Request.{Request}
use Rattle.http_wire.specs.declared.wire.WireEnd.{WireEnd}
use Rattle.http_wire.specs.declared.wire.WireEnd.TheVariants as wire
use Rattle.http_wire.specs.Stream.{Wrote, WroteSome}
use Rattle.list_machine.specs.declared.event.Limits.{Limits}
use Rattle.list_machine.specs.Run.{History}
use Rattle.list_machine.specs.Serving.{Call}
use Rattle.es_rest.specs.declared.connection.ConnEnd.{ConnEnd}
use Rattle.es_rest.specs.declared.connection.ConnEnd.TheVariants as end
use Rattle.reply_json.specs.declared.fault.RestFault.TheVariants as fault
use Rattle.reply_json.specs.declared.response.Response.{Response}
use Rattle.reply_json.specs.declared.response.Response.TheVariants.{Fault}
use Rattle.reply_json.specs.Replies.{text}
use Rattle.es_rest.specs.Headline.{last_words}
use Rattle.es_rest.specs.Moments.{clock_answer}
use Rattle.es_rest.specs.Talk.{Exchange, Responds, Served}

-- no text stands for the one that memory ran out
abbrev pub words_text : Option (List ℕ) → Bool → List ℕ
words_text (Some bytes) last = bytes
words_text None last = text (Fault fault.NoMemory) last

-- a response was made, and its text
pub record Answered (limits : Limits) (seat moment : ℕ) (old new : History) (request : Request) (words : List ℕ) : Type 0 where
  pub response : Response
  pub responds : Responds limits seat moment old new request response
  pub words_are : words ≡ text response request.last

-- all of a text was written, or some first bytes
abbrev pub WroteBy : {E : Type 0} → Option (List ℕ) → Option (List ℕ) → List ℕ → Result (Unit {0}) E → Type 0
WroteBy before after words (Ok done) = Wrote before after words
WroteBy before after words (Err e) = WroteSome before after words

-- the clock answered a request, and the moment is that or later
abbrev pub LastGoesOn : Option ℕ → Option ℕ → Request → ℕ → ℕ → Type 0
LastGoesOn None after request old new = Unit {0}
LastGoesOn (Some last) after request old new = (after ≡ Some (clock_answer last request)) × (new ≡ max old (clock_answer last request))

-- the clock gave one answer: the moment is it or later, and so is the clock's greatest
abbrev pub ClockAnswers : ℕ → ℕ → ℕ → ℕ → Type 0
ClockAnswers old new greatest great = (answer : ℕ) × (new ≡ max old answer) × (great ≡ max greatest answer)

-- a request was served at a moment, and its response was written whole exactly where that is answered
pub record Exchanged (helped tidied : Call) (limits : Limits) (seat moment : ℕ) (front after : History) (request : Request) (written now : Option (List ℕ)) {E : Type 0} (result : Result (Unit {0}) E) : Type 0 where
  pub x : Exchange
  pub request_is : x.request ≡ request
  pub moment_is : x.moment ≡ moment
  pub written_is : x.written ≡ is_ok result
  pub served : Served helped tidied limits seat front after x
  pub wrote : WroteBy written now (text x.response request.last) result

-- what an end of the wire comes to; memory may run out at its words too
abbrev pub Aims : WireEnd → ConnEnd → Type 0
Aims wire.Truncated end.Truncated = Unit {0}
Aims wire.NotBuilt end.Refused = Unit {0}
Aims wire.NotBuilt end.NoMemory = Unit {0}
Aims wire.ReadFault end.ReadFault = Unit {0}
Aims wire.TooMuch end.TooMuch = Unit {0}
Aims wire.NoMemory end.NoMemory = Unit {0}
Aims wire other = ⊥

-- the last words were written, or some first bytes of them
pub record Closed (before after : Option (List ℕ)) (wire : WireEnd) (result : ConnEnd) : Type 0 where
  pub aim : ConnEnd
  pub aims : Aims wire aim
  pub wrote : ((result ≡ aim) × Wrote before after (last_words aim)) ⊎ ((result ≡ end.WriteFault) × WroteSome before after (last_words aim))
