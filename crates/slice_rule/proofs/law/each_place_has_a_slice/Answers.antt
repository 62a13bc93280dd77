use Rattle.slice_rule.proofs.Shares.{part_below}
use Rattle.slice_rule.proofs.law.each_place_has_a_slice.Goals as goal

pub returns : goal.returns
returns c = part_below
