-- A step adds one to the entries.
use Rattle.std.proofs.Common.{Result, Ok, Err, ap}
use Rattle.std.specs.Prelude.{OnOk}
use Rattle.list_machine.specs.Seen.Ran.{Ran}
use Rattle.es_calls_core.proofs.histories.take_step.Goals as goal

on_ok : {T E : Type 0} (r : Result T E) (P Q : Type 0) → (P → Q) → OnOk r P → OnOk r Q
on_ok (Ok x) P Q f p = f p
on_ok (Err e) P Q f p = tt

pub returns : goal.returns
returns c = on_ok c.step.result _ _ (λ e. ap (λ (ran : Ran). ran.entries) e) c.step.ensures.state
