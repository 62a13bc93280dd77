-- The values so far, and those of the items that are left.
use Rattle.std.proofs.Common.{◌≡◌, drop}
use Rattle.serde_json.specs.View.{items_view}
use Rattle.search_json.specs.Sorts.{after_values}
use Rattle.search_json.proofs.Lists.{onto}
use Rattle.search_json.proofs.after.after_values.Given as goal

abbrev pub invariant-loop-value : goal.invariant-loop-value
invariant-loop-value l = onto l.all.items (after_values (items_view (drop l.value-index l.values))) ≡ after_values (items_view l.values)
