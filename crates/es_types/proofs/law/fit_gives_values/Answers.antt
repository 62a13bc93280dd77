use Rattle.es_types.proofs.FitKinds.{fit_kinds}
use Rattle.es_types.proofs.law.fit_gives_values.Goals as goal

pub returns : goal.returns
returns c = fit_kinds
