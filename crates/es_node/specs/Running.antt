-- What a run of the command `replay` does.
use Rattle.std.specs.Prelude.{◌≡◌, ◌⊎◌, ℕ, Bool, false, bytes_eq, List, [], ◌∷◌, Option, Some, codes}
use Rattle.es_types.specs.declared.limits.TheConstants.{MOST_ENTRIES, USUAL_PITS}
use Rattle.es_outside.specs.Memory.{Asks, Dial}
use Rattle.list_machine.specs.declared.event.Limits.{Limits}
use Rattle.list_machine.specs.Run.{History}
use Rattle.list_machine.specs.Serving.{IsKept}
use Rattle.es_rest.specs.declared.connection.ConnEnd.{ConnEnd}
use Rattle.es_rest.specs.declared.connection.ConnEnd.TheVariants as end
use Rattle.es_node.specs.declared.run.Status.{Status}
use Rattle.es_node.specs.declared.run.Status.TheVariants.{Done, Refused, Usage, ReadFault, WriteFault, NoMemory, Truncated, TooMuch}
use Rattle.es_rest.specs.Headline.{Headline}
use Rattle.es_node.specs.Solo.{AreOwn, Helps, Tidies}

-- the one word `replay`
abbrev pub is_replay : List (List ℕ) → Bool
is_replay [] = false
is_replay (word ∷ []) = bytes_eq word (codes "replay")
is_replay (word ∷ next ∷ words) = false

abbrev pub status_code : Status → ℕ
status_code Done = 0
status_code Refused = 1
status_code Usage = 2
status_code ReadFault = 3
status_code WriteFault = 4
status_code NoMemory = 5
status_code Truncated = 6
status_code TooMuch = 7

abbrev pub end_status : ConnEnd → Status
end_status end.Done = Done
end_status end.Refused = Refused
end_status end.ReadFault = ReadFault
end_status end.WriteFault = WriteFault
end_status end.NoMemory = NoMemory
end_status end.Truncated = Truncated
end_status end.TooMuch = TooMuch

abbrev pub limits : Limits
limits = record { pits = USUAL_PITS; entries = MOST_ENTRIES }

-- One connection was served, from an empty history and by entries of its own seat alone, which were not too many.
-- The clock's answer before was 0.
pub record ServedOne (left after written now : Option (List ℕ)) (status : Status) : Type 0 where
  pub history : History
  pub own : AreOwn history
  pub kept : IsKept limits history
  pub end : ConnEnd
  pub status_is : status ≡ end_status end
  pub clock : Dial
  pub headline : Headline Helps Tidies limits 0 [] history left after written now Asks (record { last = 0; greatest = 0 }) clock (Some 0) 0 clock.greatest end

-- memory ran out before anything was read or written
pub record NoneServed (left after written now : Option (List ℕ)) (status : Status) : Type 0 where
  pub status_is : status ≡ NoMemory
  pub left_is : after ≡ left
  pub written_is : now ≡ written

abbrev pub Replays : Option (List ℕ) → Option (List ℕ) → Option (List ℕ) → Option (List ℕ) → Status → Type 0
Replays left after written now status = ServedOne left after written now status ⊎ NoneServed left after written now status
