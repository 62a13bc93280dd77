-- What is said of a whole input, and of two runs over one input.
use Rattle.std.specs.Prelude.{◌≡◌, ◌≢◌, ◌⊎◌, ℕ, ◌<◌, ◌≤◌, List, [], length, map, Option, Some, None, All}
use Rattle.es_types.specs.declared.limits.TheConstants.{CONNECTION_BYTES}
use Rattle.es_outside.specs.Told.{Rose}
use Rattle.http_wire.specs.declared.request.Request.{Request}
use Rattle.http_wire.specs.Requests.{Spells}
use Rattle.list_machine.specs.declared.event.Limits.{Limits}
use Rattle.list_machine.specs.Run.{History}
use Rattle.list_machine.specs.Serving.{Call, IsKept}
use Rattle.es_node.specs.declared.run.Status.{Status}
use Rattle.es_node.specs.declared.run.Status.TheVariants.{Done, Refused, NoMemory, Truncated, TooMuch}
use Rattle.reply_json.specs.declared.response.Response.{Response}
use Rattle.reply_json.specs.declared.response.Response.TheVariants.{Fault}
use Rattle.reply_json.specs.declared.fault.RestFault.TheVariants as fault
use Rattle.es_rest.specs.Talk.{Exchange, Serves}
use Rattle.es_rest.specs.Headline.{NeverFalls, requests_of}
use Rattle.es_node.specs.Solo.{AreOwn}
use Rattle.es_node.specs.Running.{ServedOne}

-- ---- a whole input

-- all of these requests of a run were answered
pub record AnswersAll (requests : List Request) (left after written now : Option (List ℕ)) : Type 0 where
  pub one : ServedOne left after written now Done
  pub all : requests_of one.headline.served ≡ requests

abbrev pub Completes : Option (List ℕ) → Option (List ℕ) → Option (List ℕ) → Option (List ℕ) → ℕ → ℕ → ℕ → ℕ → Status
    → Type 0
Completes None after written now reads reads_after writes writes_after status = Unit {0}
Completes (Some bytes) after written now reads reads_after writes writes_after status =
    (requests : List Request) → Spells bytes requests [] → length bytes ≤ CONNECTION_BYTES
    → (Rose reads reads_after → ⊥) → (Rose writes writes_after → ⊥)
    → (status ≡ NoMemory) ⊎ ((status ≡ Done) × AnswersAll requests (Some bytes) after written now)

-- ---- two runs

abbrev pub moments_of : List Exchange → List ℕ
moments_of served = map (λ (x : Exchange). x.moment) served

abbrev pub responses_of : List Exchange → List Response
responses_of served = map (λ (x : Exchange). x.response) served

-- no response is the one that memory ran out
abbrev pub NeverWants : List Exchange → Type 0
NeverWants served = All (λ (x : Exchange). x.response ≢ Fault fault.NoMemory) served

-- the history isn't full, so no reply was Spent
abbrev pub HasRoom : Limits → History → Type 0
HasRoom limits history = length history < limits.entries

-- a call of which nothing is said but how the history grows
abbrev pub AnyCall : Call
AnyCall moment old new = Unit {0}

-- These requests were served from an empty history with ample memory and room, by entries of one seat alone, at moments that
-- never fall.
pub record ServesAlone (limits : Limits) (history : History) (served : List Exchange) : Type 0 where
  pub kept : IsKept limits history
  pub room : HasRoom limits history
  pub own : AreOwn history
  pub serves : Serves AnyCall AnyCall limits 0 [] history served
  pub never_fall : NeverFalls 0 served
  pub ample : NeverWants served

-- the run ended neither by a fault nor by lack of memory
abbrev pub EndsItself : Status → Type 0
EndsItself Done = Unit {0}
EndsItself Refused = Unit {0}
EndsItself Truncated = Unit {0}
EndsItself TooMuch = Unit {0}
EndsItself status = ⊥
