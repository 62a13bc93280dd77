use Rattle.std.proofs.Common.{arith}
use Rattle.http_wire.proofs.Flow.{ended_by_fault, ended_by_much}
use Rattle.http_wire.proofs.buf.probe.Goals as goal

pub returns-in-Ok-clause-read : goal.returns-in-Ok-clause-read
returns-in-Ok-clause-read g c =
    λ old none held. ended_by_much old _ _ _ c.in-Ok.field-0 none (omega (arith, c.in-Ok.field-0-test.1)) c.in-Ok.ensures.bytes held

pub returns-in-Err-clause-read : goal.returns-in-Err-clause-read
returns-in-Err-clause-read g c = λ old none held. ended_by_fault old _ _ c.in-Err.ensures.same held
