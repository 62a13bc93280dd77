-- Ends with their words, and without.
use Rattle.std.proofs.Common.{refl, ◌∙◌}
use Rattle.http_wire.specs.declared.wire.WireEnd.TheVariants as wire
use Rattle.es_rest.specs.declared.connection.ConnEnd.TheVariants as end
use Rattle.es_rest.proofs.Exchanges.{closed_silent, closed_with}
use Rattle.es_rest.proofs.connection.close.Goals as goal

pub returns-in-Truncated-clause-closed : goal.returns-in-Truncated-clause-closed
returns-in-Truncated-clause-closed g c = rw c.in-Truncated.is (closed_silent (g.L.Link.written c.args.link.now) wire.Truncated end.Truncated tt refl)

pub returns-in-ReadFault-clause-closed : goal.returns-in-ReadFault-clause-closed
returns-in-ReadFault-clause-closed g c = rw c.in-ReadFault.is (closed_silent (g.L.Link.written c.args.link.now) wire.ReadFault end.ReadFault tt refl)

pub returns-in-TooMuch-clause-closed : goal.returns-in-TooMuch-clause-closed
returns-in-TooMuch-clause-closed g c = rw c.in-TooMuch.is (closed_silent (g.L.Link.written c.args.link.now) wire.TooMuch end.TooMuch tt refl)

pub returns-in-NoMemory-clause-closed : goal.returns-in-NoMemory-clause-closed
returns-in-NoMemory-clause-closed g c =
    rw c.in-NoMemory.is (closed_with (g.L.Link.written c.args.link.now) (g.L.Link.written c.write_last.new.link) wire.NoMemory end.NoMemory c.write_last.result c.no_memory_text.result.now tt c.no_memory_text.ensures c.write_last.ensures.wrote)

pub returns-in-Ok-clause-closed : goal.returns-in-Ok-clause-closed
returns-in-Ok-clause-closed g c =
    rw c.in-NotBuilt.is (closed_with (g.L.Link.written c.args.link.now) (g.L.Link.written c.write_last-in-Ok.new.link) wire.NotBuilt end.Refused c.write_last-in-Ok.result c.as_slice.result.now tt
    (c.as_slice.ensures ∙ c.in-Ok.ensures) c.write_last-in-Ok.ensures.wrote)

pub returns-in-Err-clause-closed : goal.returns-in-Err-clause-closed
returns-in-Err-clause-closed g c =
    rw c.in-NotBuilt.is (closed_with (g.L.Link.written c.args.link.now) (g.L.Link.written c.write_last-in-Err.new.link) wire.NotBuilt end.NoMemory c.write_last-in-Err.result c.no_memory_text-in-Err.result.now tt
    c.no_memory_text-in-Err.ensures c.write_last-in-Err.ensures.wrote)
