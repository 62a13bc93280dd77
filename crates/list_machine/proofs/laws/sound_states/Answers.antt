use Rattle.list_machine.proofs.Sound.{state_sound, state_objects}
use Rattle.list_machine.proofs.CountLemmas.{state_counted}
use Rattle.list_machine.proofs.Sealed.{few_numbers}
use Rattle.list_machine.proofs.Runs.{limits_kept, moments_never_fall}
use Rattle.list_machine.proofs.laws.sound_states.Goals as goal

pub returns-clause-sound : goal.returns-clause-sound
returns-clause-sound c = state_sound

pub returns-clause-objects : goal.returns-clause-objects
returns-clause-objects c = state_objects

pub returns-clause-sealed : goal.returns-clause-sealed
returns-clause-sealed c = few_numbers

pub returns-clause-counted : goal.returns-clause-counted
returns-clause-counted c = state_counted

pub returns-clause-limits : goal.returns-clause-limits
returns-clause-limits c = limits_kept

pub returns-clause-moments : goal.returns-clause-moments
returns-clause-moments c = moments_never_fall
