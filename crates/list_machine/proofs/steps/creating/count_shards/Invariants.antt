-- The count so far.
use Rattle.std.proofs.Common.{◌≡◌, length, sum_by, take}
use Rattle.list_machine.specs.declared.store.IndexStore.{IndexStore}
use Rattle.list_machine.proofs.steps.creating.count_shards.Given as goal

abbrev pub invariant-loop-index : goal.invariant-loop-index
invariant-loop-index l = l.count ≡ sum_by (λ (index : IndexStore). length index.shards.items) (take l.index-index l.indexes)
