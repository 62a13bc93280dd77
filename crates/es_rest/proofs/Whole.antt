-- Inputs of whole requests.
use Rattle.std.proofs.Common.{◌≡◌, subst, inl, inr, ⊎_elim, ◌⊎◌, ℕ, ◌≤◌, List, [], length, take, Option, Some, None, arith, refl}
use Rattle.std.proofs.lemmas.List.{take_all}
use Rattle.es_types.specs.declared.limits.TheConstants.{CONNECTION_BYTES}
use Rattle.es_outside.specs.Told.{Rose}
use Rattle.http_wire.specs.declared.request.Request.{Request}
use Rattle.http_wire.specs.Requests.{IsEnd, Spells}
use Rattle.http_wire.proofs.OneHead.{ends_apart, spells_one}
use Rattle.list_machine.specs.declared.event.Limits.{Limits}
use Rattle.list_machine.specs.Run.{History}
use Rattle.list_machine.specs.Serving.{Call}
use Rattle.es_rest.specs.declared.connection.ConnEnd.{ConnEnd}
use Rattle.es_rest.specs.declared.connection.ConnEnd.TheVariants as end
use Rattle.es_rest.specs.Headline.{Cuts, Headline, requests_of}
use Rattle.es_rest.specs.Whole.{ServesWhole}

-- the input was taken whole, so these are its requests
same_requests : (bytes rest : List ℕ) (served requests : List Request) → length bytes ≤ CONNECTION_BYTES → Spells (take CONNECTION_BYTES bytes) served rest → IsEnd rest
    → Spells bytes requests [] → (served ≡ requests) × (rest ≡ [])
same_requests bytes rest served requests room cut ends spells =
    spells_one bytes served requests rest [] (subst (λ (l : List ℕ). Spells l served rest) (take_all CONNECTION_BYTES bytes room) cut) ends spells (inl (inl refl))

-- what an end says where nothing stands after the requests
pub which_end : (bytes : List ℕ) (served requests : List Request) (ended : ConnEnd) → Cuts bytes served ended → Spells bytes requests [] → length bytes ≤ CONNECTION_BYTES
    → (ended ≡ end.ReadFault → ⊥) → (ended ≡ end.WriteFault → ⊥) → (ended ≡ end.NoMemory) ⊎ ((ended ≡ end.Done) × (served ≡ requests))
which_end bytes served requests end.Done cuts spells room read write =
    inr (refl, (same_requests bytes cuts.rest served requests room cuts.spells (inl (inl cuts.ends.1)) spells).0)
which_end bytes served requests end.Truncated cuts spells room read write =
    absurd (cuts.ends.1 (same_requests bytes cuts.rest served requests room cuts.spells (inl (inr cuts.ends.2)) spells).1)
which_end bytes served requests end.Refused cuts spells room read write =
    let none = (same_requests bytes cuts.rest served requests room cuts.spells (inr cuts.ends) spells).1 in
    absurd (ends_apart cuts.rest (inl none) cuts.ends)
which_end bytes served requests end.TooMuch cuts spells room read write = absurd (omega (arith, room, cuts.ends.0))
which_end bytes served requests end.ReadFault cuts spells room read write = absurd (read refl)
which_end bytes served requests end.WriteFault cuts spells room read write = absurd (write refl)
which_end bytes served requests end.NoMemory cuts spells room read write = inl refl

-- a connection whose input is whole requests
pub serves_whole : (helped tidied : Call) (limits : Limits) (seat : ℕ) (old new : History) (left after written now : Option (List ℕ)) {S : Type 0} (asked : S → Option ℕ → ℕ → S → Type 0) (clock clock_after : S) (last : Option ℕ) (begun greatest reads reads_after writes writes_after : ℕ) (ended : ConnEnd) → Headline helped tidied limits seat old new left after written now asked clock clock_after last begun greatest ended
    → (ended ≡ end.ReadFault → Rose reads reads_after) → (ended ≡ end.WriteFault → Rose writes writes_after)
    → ServesWhole helped tidied limits seat old new left after written now asked clock clock_after last begun greatest reads reads_after writes writes_after ended
serves_whole helped tidied limits seat old new None after written now asked clock clock_after last begun greatest reads reads_after writes writes_after ended h read write = tt
serves_whole helped tidied limits seat old new (Some bytes) after written now asked clock clock_after last begun greatest reads reads_after writes writes_after ended h read write =
    λ requests spells room no_read no_write. ⊎_elim
    (λ wants. inl wants)
    (λ done.
    let P : ConnEnd → Type 0 = λ e. (k : Headline helped tidied limits seat old new (Some bytes) after written now asked clock clock_after last begun greatest e) × (requests_of k.served ≡ requests) in
    let all = subst P done.0 (h, done.1) in
    inr (done.0, record { headline = all.0; all = all.1 }))
    (which_end bytes (requests_of h.served) requests ended h.reads.0 spells room (λ e. no_read (read e)) (λ e. no_write (write e)))
