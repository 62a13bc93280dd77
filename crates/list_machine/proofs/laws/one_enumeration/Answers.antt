use Rattle.list_machine.proofs.Ordered.{enumeration_only, enumeration_rises, enumeration_same}
use Rattle.list_machine.proofs.laws.one_enumeration.Goals as goal

pub returns-clause-same : goal.returns-clause-same
returns-clause-same c = enumeration_same

pub returns-clause-ordered : goal.returns-clause-ordered
returns-clause-ordered c = enumeration_rises (record { total = c.strict_total_order.ensures.total; apart = c.strict_total_order.ensures.apart })

pub returns-clause-only : goal.returns-clause-only
returns-clause-only c = enumeration_only (record { total = c.strict_total_order.ensures.total; apart = c.strict_total_order.ensures.apart })
