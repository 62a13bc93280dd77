-- An object.
use Rattle.es_route.proofs.Objects.{doc_object}
use Rattle.es_route.proofs.documents.put_of.Goals as goal

pub returns-in-Ok-clause-sound : goal.returns-in-Ok-clause-sound
returns-in-Ok-clause-sound c = doc_object c.args.body.now c.in-Ok.doc c.in-Ok.ensures.answer
