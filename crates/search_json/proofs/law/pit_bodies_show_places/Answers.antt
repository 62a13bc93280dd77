use Rattle.search_json.proofs.Shows.{search_shows}
use Rattle.search_json.proofs.law.pit_bodies_show_places.Goals as goal

pub returns : goal.returns
returns c = search_shows
