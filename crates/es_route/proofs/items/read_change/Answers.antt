use Rattle.es_route.proofs.Objects.{doc_object}
use Rattle.es_route.proofs.items.read_change.Goals as goal

pub returns-in-Ok-clause-object : goal.returns-in-Ok-clause-object
returns-in-Ok-clause-object c = doc_object _ c.in-Ok.doc c.in-Ok.ensures.answer
