-- The actions so far, and those that stand from here on, are all.
use Rattle.std.proofs.Common.{option_map, ◌-◌, length}
use Rattle.es_route.proofs.Walks.{Walked}
use Rattle.es_route.proofs.items.actions_of.Given as goal

abbrev pub invariant-items : goal.invariant-items
invariant-items l = Walked (option_map (λ name. name.now) l.index) l.body l.at l.actions.items

abbrev pub decreases-items : goal.decreases-items
decreases-items l = length l.body - l.at
