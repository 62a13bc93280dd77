use Rattle.list_machine.proofs.PagesInTurn.{enumerates}
use Rattle.list_machine.proofs.laws.pages_in_turn.Goals as goal

pub returns : goal.returns
returns c = enumerates (record { total = c.strict_total_order.ensures.total; apart = c.strict_total_order.ensures.apart })
