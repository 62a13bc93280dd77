-- The copies so far are the items so far.
use Rattle.std.proofs.Common.{◌≡◌, take}
use Rattle.es_types.proofs.items.copy_all.Given as goal

abbrev pub invariant-loop-item : goal.invariant-loop-item
invariant-loop-item g l = l.all.items ≡ take l.item-index l.items
