-- The request, its moment and its response.
use Rattle.es_rest.specs.Exchanges.{words_text}
use Rattle.es_rest.proofs.Exchanges.{exchanged_by}
use Rattle.es_rest.proofs.connection.exchange.Goals as goal

pub returns-clause-exchanged : goal.returns-clause-exchanged
returns-clause-exchanged g c =
    let s = g.V.Service in
    let link = g.L.Link in
    exchanged_by s.helped s.tidied (s.limits c.args.service.now) (s.limits c.answer-words.new.service) (s.seat c.args.service.now) (s.seat c.answer-words.new.service) c.later.result
    (s.front c.args.service.now) (s.front c.answer-words.new.service) (s.front c.tidy_up.new.service) c.args.request
    (words_text c.answer-words.result c.args.request.last) (link.written c.args.link.now) (link.written c.write_words-written.new.link) c.write_words-written.result c.is_ok.result
    c.answer-words.ensures.limits c.answer-words.ensures.seat c.answer-words.ensures.answered c.write_words-written.ensures.wrote c.is_ok.ensures.value c.tidy_up.ensures.tended
