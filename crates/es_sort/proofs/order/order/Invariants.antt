-- The keys that are left decide.
use Rattle.std.proofs.Common.{◌≡◌, drop}
use Rattle.es_sort.specs.Keys.{with_place}
use Rattle.es_sort.specs.Orders.{values_order}
use Rattle.es_sort.proofs.order.order.Given as goal

abbrev pub invariant-loop-at : goal.invariant-loop-at
invariant-loop-at l = values_order (with_place l.place (drop l.at l.keys)) (drop l.at l.a) (drop l.at l.b) ≡ values_order (with_place l.place l.keys) l.a l.b
