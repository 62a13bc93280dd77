-- The keys so far, and what the names of those that are left mean.
use Rattle.std.proofs.Common.{◌≡◌, ◌++◌}
use Rattle.std.specs.Prelude.{map}
use Rattle.search_json.specs.Sorts.{sort_key}
use Rattle.search_json.proofs.sort.sort_keys.Given as goal

abbrev pub invariant-loop-key : goal.invariant-loop-key
invariant-loop-key l = l.all.items ++ map sort_key l.key-iterator.rest.items ≡ map sort_key l.fn.keys.items
