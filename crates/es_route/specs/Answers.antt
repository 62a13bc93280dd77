-- What a function answers where another one says what that is.
use Rattle.std.specs.Prelude.{◌≡◌, Result, Ok, Err}
use Rattle.reply_json.specs.declared.fault.RestFault.{RestFault}
use Rattle.reply_json.specs.declared.fault.RestFault.TheVariants as fault

-- the next thing that is read, where this one isn't refused
abbrev pub and_then : {A B : Type 0} → Result A RestFault → (A → Result B RestFault) → Result B RestFault
and_then (Ok value) next = next value
and_then (Err fault) next = Err fault

-- a call answers that, or memory ran out
abbrev pub Answers : {A : Type 0} → Result A RestFault → Result A RestFault → Type 0
Answers (Err fault.NoMemory) asked = Unit {0}
Answers answer asked = asked ≡ answer
