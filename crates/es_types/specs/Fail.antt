-- What a call answers that may run out of memory.
use Rattle.std.specs.Prelude.{◌≡◌, Result, Ok, Err}
use Rattle.es_types.specs.declared.fail.Fail.{Fail}
use Rattle.es_types.specs.declared.fail.Fail.TheVariants.{Is, NoMemory}

-- it gives what is wanted, a value or an error, unless memory ran out
abbrev pub Answers : {A E : Type 0} → Result A (Fail E) → Result A E → Type 0
Answers (Ok value) wanted = wanted ≡ Ok value
Answers (Err (Is error)) wanted = wanted ≡ Err error
Answers (Err NoMemory) wanted = Unit {0}
