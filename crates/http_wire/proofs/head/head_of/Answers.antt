use Rattle.std.proofs.Common.{arith}
use Rattle.http_wire.proofs.Accept.{parsed_is, parsed_none}
use Rattle.http_wire.proofs.head.head_of.Goals as goal

pub returns-in-Ok-Complete-clause-is : goal.returns-in-Ok-Complete-clause-is
returns-in-Ok-Complete-clause-is c =
    parsed_is c.args.bytes.now c.parse_request.new.headers c.in-Ok-Complete.spans c.accept.result (omega arith) (rw c.in-Ok-Complete.field-0-is at c.in-Ok-Complete.ensures.complete) c.accept.ensures.is

pub returns-in-Ok-Complete-clause-not : goal.returns-in-Ok-Complete-clause-not
returns-in-Ok-Complete-clause-not c =
    parsed_none c.args.bytes.now c.parse_request.new.headers c.in-Ok-Complete.spans c.accept.result (rw c.in-Ok-Complete.field-0-is at c.in-Ok-Complete.ensures.complete) c.accept.ensures.is
