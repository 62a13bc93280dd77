-- What a Seal answers.
use Rattle.std.proofs.Common.{◌≡◌, ℕ, ◌≤◌, List, length, map, Option, Some, None, refl, ap, subst, arith}
use Rattle.std.proofs.lemmas.List.{length-map}
use Rattle.es_types.specs.declared.limits.TheConstants.{ALL_SHARDS}
use Rattle.list_machine.specs.declared.event.Entry.{Entry}
use Rattle.list_machine.specs.declared.event.Event.{Event}
use Rattle.list_machine.specs.declared.event.Event.TheVariants.{Seal}
use Rattle.list_machine.specs.declared.event.Reply.TheVariants.{Sealed}
use Rattle.list_machine.specs.declared.event.Limits.{Limits}
use Rattle.list_machine.specs.Rows.{last_number}
use Rattle.list_machine.specs.State.{State, Index, index_of}
use Rattle.list_machine.specs.Step.{seal, happen, at_moment}
use Rattle.list_machine.specs.Run.{History, state_of, reply_of}
use Rattle.list_machine.proofs.IndexMoves.{found_few}
use Rattle.list_machine.proofs.Sound.{state_sound}

-- the numbers are those of the shards of the index
numbers_of : (state : State) (found : Option Index) (numbers : List ℕ) → (seal state found).1 ≡ Sealed numbers → (index : Index) × (found ≡ Some index) × (map last_number index.shards ≡ numbers)
numbers_of state None numbers e = absurd (cc)
numbers_of state (Some index) numbers e = (index, refl, cc)

-- a Seal answers no more numbers than there may be shards
pub few_numbers : (limits : Limits) (history : History) (entry : Entry) (index numbers : List ℕ) → entry.event ≡ Seal index → reply_of limits history entry ≡ Sealed numbers → length numbers ≤ ALL_SHARDS
few_numbers limits history entry index numbers seals e =
    let state = state_of limits history in
    let said : (happen (at_moment state entry.moment) (Seal index)).1 ≡ Sealed numbers =
    subst (λ (event : Event). (happen (at_moment state entry.moment) event).1 ≡ Sealed numbers) seals e in
    let of = numbers_of (at_moment state entry.moment) (index_of index state.indexes) numbers said in
    omega (arith, found_few index state.indexes of.0 of.1, (state_sound limits history).few, ap length of.2, length-map of.0.shards last_number)
