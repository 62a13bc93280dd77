-- A write fails where the call is listed, or where no room is left.
use Rattle.std.proofs.Common.{◌≤◌, inl, inr, length, refl, rules, arith}
use Rattle.std.specs.Prelude.{Contains}
use Rattle.es_outside.specs.Memory.{counted}
use Rattle.es_outside.proofs.sink.MemSinkSink.write.Goals as goal
use Rattle.es_outside.proofs.sink.MemSinkSink.write.Goals.{then-contains-via-then-contains, then-contains-via-else-contains+then-count-eq0}

pub returns-then-contains-clause-fails : goal.returns-then-contains-clause-fails
returns-then-contains-clause-fails c = (
  λ e. elim c.then-contains.branch [
    | then-contains-via-then-contains w ↦
        let here : Contains c.args.self.now.failing (counted c.args.self.now.calls) = search rules in
        inl here
    | then-contains-via-else-contains+then-count-eq0 w ↦
        let full : c.args.self.now.room ≤ length c.args.self.now.written = rw (← c.self.view_is) (omega arith) in
        inr full
  ],
  λ h. refl,
)
