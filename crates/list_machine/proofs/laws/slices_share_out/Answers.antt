use Rattle.list_machine.proofs.Slicing.{in_one, slice_rest}
use Rattle.list_machine.proofs.laws.slices_share_out.Goals as goal

pub returns-clause-one : goal.returns-clause-one
returns-clause-one c = in_one (record { total = c.strict_total_order.ensures.total; apart = c.strict_total_order.ensures.apart }) c.each_place_has_a_slice.ensures

pub returns-clause-rest : goal.returns-clause-rest
returns-clause-rest c = slice_rest (record { total = c.strict_total_order.ensures.total; apart = c.strict_total_order.ensures.apart })
