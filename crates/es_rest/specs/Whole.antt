-- That what is left of a connection is answered wholly.
use Rattle.std.specs.Prelude.{◌≡◌, ◌⊎◌, ℕ, ◌≤◌, List, [], length, Option, Some, None}
use Rattle.es_types.specs.declared.limits.TheConstants.{CONNECTION_BYTES}
use Rattle.es_outside.specs.Told.{Rose}
use Rattle.http_wire.specs.declared.request.Request.{Request}
use Rattle.http_wire.specs.Requests.{Spells}
use Rattle.list_machine.specs.declared.event.Limits.{Limits}
use Rattle.list_machine.specs.Run.{History}
use Rattle.list_machine.specs.Serving.{Call}
use Rattle.es_rest.specs.declared.connection.ConnEnd.{ConnEnd}
use Rattle.es_rest.specs.declared.connection.ConnEnd.TheVariants as end
use Rattle.es_rest.specs.Headline.{Headline, requests_of}

-- all of these requests of a connection were answered
pub record ServesAll (helped tidied : Call) (limits : Limits) (seat : ℕ) (old new : History) (left after written now : Option (List ℕ)) {S : Type 0} (asked : S → Option ℕ → ℕ → S → Type 0) (clock clock_after : S) (last : Option ℕ) (begun greatest : ℕ) (requests : List Request) : Type 0 where
  pub headline : Headline helped tidied limits seat old new left after written now asked clock clock_after last begun greatest end.Done
  pub all : requests_of headline.served ≡ requests

-- Where what is left of a connection is these requests and no more, and no fault was counted, all are answered, or
-- memory ran out.
abbrev pub ServesWhole : Call → Call → Limits → ℕ → History → History → Option (List ℕ) → Option (List ℕ) → Option (List ℕ) → Option (List ℕ)
    → {S : Type 0} → (S → Option ℕ → ℕ → S → Type 0) → S → S → Option ℕ → ℕ → ℕ → ℕ → ℕ → ℕ → ℕ → ConnEnd → Type 0
ServesWhole helped tidied limits seat old new None after written now asked clock clock_after last begun greatest reads reads_after writes writes_after ended = Unit {0}
ServesWhole helped tidied limits seat old new (Some bytes) after written now asked clock clock_after last begun greatest reads reads_after writes writes_after ended =
    (requests : List Request) → Spells bytes requests [] → length bytes ≤ CONNECTION_BYTES
    → (Rose reads reads_after → ⊥) → (Rose writes writes_after → ⊥)
    → (ended ≡ end.NoMemory) ⊎ ((ended ≡ end.Done) × ServesAll helped tidied limits seat old new (Some bytes) after written now asked clock clock_after last begun greatest requests)
