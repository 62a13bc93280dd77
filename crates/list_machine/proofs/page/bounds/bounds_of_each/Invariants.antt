-- The bounds so far.
use Rattle.std.proofs.Common.{◌≡◌, map, take}
use Rattle.list_machine.specs.Seen.Stores.{bounds_of_each}
use Rattle.list_machine.proofs.page.bounds.bounds_of_each.Given as goal

abbrev pub invariant-loop-rows : goal.invariant-loop-rows
invariant-loop-rows l = l.bounds.items ≡ bounds_of_each l.mapping (map (λ rows. rows.now) (take l.rows-index l.rows))
