use Rattle.http_wire.proofs.OneHead.{ends_apart, spells_one}
use Rattle.http_wire.proofs.laws.one_cut.Goals as goal

pub returns-clause-cut : goal.returns-clause-cut
returns-clause-cut c = spells_one

pub returns-clause-apart : goal.returns-clause-apart
returns-clause-apart c = ends_apart
