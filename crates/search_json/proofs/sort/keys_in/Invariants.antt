-- The keys so far, and those of the items that are left.
use Rattle.std.proofs.Common.{◌≡◌, drop}
use Rattle.serde_json.specs.View.{items_view}
use Rattle.search_json.specs.Sorts.{keys_in}
use Rattle.search_json.proofs.Lists.{onto}
use Rattle.search_json.proofs.sort.keys_in.Given as goal

abbrev pub invariant-loop-value : goal.invariant-loop-value
invariant-loop-value l = onto l.keys.items (keys_in (items_view (drop l.value-index l.values))) ≡ keys_in (items_view l.values)
