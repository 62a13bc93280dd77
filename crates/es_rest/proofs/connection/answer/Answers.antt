-- The response with its text, or the one that memory ran out.
use Rattle.es_rest.proofs.Exchanges.{answered_by}
use Rattle.es_rest.proofs.connection.answer.Goals as goal

pub returns-clause-answered : goal.returns-clause-answered
returns-clause-answered g c =
    let s = g.V.Service in
    answered_by (s.limits c.args.service.now) (s.seat c.args.service.now) c.args.moment (s.front c.args.service.now) (s.front c.respond-response.new.service)
    c.args.request c.respond-response.result c.words_of.result c.respond-response.ensures.responds c.words_of.ensures
