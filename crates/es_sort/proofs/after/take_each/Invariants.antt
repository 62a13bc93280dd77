-- The keys that are left decide, and each one so far has its value.
use Rattle.std.proofs.Common.{◌≡◌, ◌≤◌, drop, length}
use Rattle.es_sort.specs.Fits.{take_each}
use Rattle.es_sort.specs.Keys.{with_place}
use Rattle.es_sort.proofs.after.take_each.Given as goal

abbrev pub invariant-loop-at : goal.invariant-loop-at
invariant-loop-at l =
    (l.at ≤ length l.values)
    × (take_each l.mapping (with_place l.place (drop l.at l.keys)) (drop l.at l.values) ≡ take_each l.mapping (with_place l.place l.keys) l.values)
