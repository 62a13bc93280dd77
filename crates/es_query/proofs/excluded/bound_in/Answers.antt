use Rattle.es_query.proofs.Lookups.{bound_looked_up, bound_unmapped}
use Rattle.es_query.proofs.excluded.bound_in.Goals as goal

pub returns-in_err-place : goal.returns-in_err-place
returns-in_err-place c = rw c.from_residual.ensures (bound_unmapped c.args.name.now c.args.mapping.now c.args.bounds.now c.in_err-place.ensures)

pub returns : goal.returns
returns c = bound_looked_up c.args.name.now c.args.mapping.now c.in_ok-place.place c.in_ok-place.ensures c.args.bounds.now c.get.result c.get.ensures.lookup.3
