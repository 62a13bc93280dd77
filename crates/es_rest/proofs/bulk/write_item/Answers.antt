-- The Write of an item, and its line.
use Rattle.doc_json.specs.Bulks.{item_of}
use Rattle.es_route.proofs.Walks.{good_index}
use Rattle.es_rest.proofs.Bulks.{item_asked}
use Rattle.es_rest.proofs.bulk.write_item.Goals as goal

pub ask-requires : goal.ask-requires
ask-requires g c = c.in-Ok.ensures.askable (g.V.Service.limits c.args.service.now) (g.V.Service.front c.args.service.now)

pub note-requires : goal.note-requires
note-requires g c = good_index (item_of c.args.body.now c.args.action) c.in-Ok.event c.in-Ok.ensures.answer

pub returns-in_ok-said-in-Ok-clause-item : goal.returns-in_ok-said-in-Ok-clause-item
returns-in_ok-said-in-Ok-clause-item g c =
    let s = g.V.Service in
    let body = c.args.body.now in
    item_asked (s.limits c.args.service.now) (s.seat c.args.service.now) c.args.moment (s.front c.args.service.now) (s.front c.ask.new.self) (item_of body c.args.action) c.in-Ok.event c.in_ok-said-in-Ok.said
    c.args.written.now c.note.new.written c.note.result c.in-Ok.ensures.answer c.in_ok-said-in-Ok.ensures.asked (c.note.ensures.lines body) c.note.ensures.changed
