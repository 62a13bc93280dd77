-- What the plain machine is seen as.
use Rattle.std.specs.Prelude.{ℕ}
use Rattle.list_machine.specs.State.{State}

-- its state, and after how many entries
pub record Ran : Type 0 where
  pub state : State
  pub entries : ℕ
