-- The limits of an index.
use Rattle.es_route.proofs.Shards.{index_shards}
use Rattle.es_route.proofs.documents.create_of.Goals as goal

pub returns-in_ok-told-in-Ok-clause-sound : goal.returns-in_ok-told-in-Ok-clause-sound
returns-in_ok-told-in-Ok-clause-sound c = index_shards c.args.body.now c.in-Ok.spec c.in-Ok.ensures
