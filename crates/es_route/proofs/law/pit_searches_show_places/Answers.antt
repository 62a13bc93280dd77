use Rattle.es_route.proofs.Shows.{searches_show}
use Rattle.es_route.proofs.law.pit_searches_show_places.Goals as goal

pub returns : goal.returns
returns c = searches_show c.pit_bodies_show_places.ensures
