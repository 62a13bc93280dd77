-- The values so far are those of the keys so far.
use Rattle.std.proofs.Common.{◌≡◌, take}
use Rattle.es_sort.specs.Keys.{values_by}
use Rattle.es_sort.proofs.key.values_by.Given as goal

abbrev pub invariant-loop-key : goal.invariant-loop-key
invariant-loop-key l = l.all.items ≡ values_by l.mapping l.values l.place (take l.key-index l.keys)
