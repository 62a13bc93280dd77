-- What an id's text is read as is the id.
use Rattle.ctx_ids.proofs.Texts.{id_of_whole}
use Rattle.ctx_ids.proofs.id.ContextId.read_text.Goals as goal

pub returns-in-Some-clause-whole : goal.returns-in-Some-clause-whole
returns-in-Some-clause-whole c = λ id is same. let read = id_of_whole c.args.text.now id is same in cc (c.in-Some.ensures.is)

pub returns-in-None-clause-whole : goal.returns-in-None-clause-whole
returns-in-None-clause-whole c = λ id is same. let read = id_of_whole c.args.text.now id is same in cc (c.in-None.ensures.is)

pub returns-in-None-clause-refused : goal.returns-in-None-clause-refused
returns-in-None-clause-refused c = λ id is same. let read = id_of_whole c.args.text.now id is same in cc (c.in-None.ensures.is)
