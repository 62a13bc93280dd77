-- Where the response was not written, nothing is added; else help, and then the tidying.
use Rattle.std.proofs.Common.{refl}
use Rattle.es_rest.proofs.Exchanges.{tended_by}
use Rattle.es_rest.proofs.connection.tidy_up.Goals as goal

pub returns-then-not-written-clause-tended : goal.returns-then-not-written-clause-tended
returns-then-not-written-clause-tended g c = rw c.if-not-written.true refl

pub returns-clause-tended : goal.returns-clause-tended
returns-clause-tended g c =
    let s = g.V.Service in
    tended_by s.helped s.tidied (s.limits c.args.service.now) (s.limits c.help.new.self) (s.seat c.args.service.now) (s.seat c.help.new.self) c.args.moment c.args.written
    (s.front c.args.service.now) (s.front c.help.new.self) (s.front c.tidy.new.self) c.if-not-written.false
    c.help.ensures.limits c.help.ensures.seat c.help.ensures.called c.help.ensures.beside c.tidy.ensures.called c.tidy.ensures.beside
