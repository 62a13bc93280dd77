-- The edges so far, and those of the members that are left.
use Rattle.std.proofs.Common.{◌≡◌}
use Rattle.serde_json.specs.View.{members_view}
use Rattle.search_json.specs.Values.{edges_in}
use Rattle.search_json.proofs.Lists.{onto}
use Rattle.search_json.proofs.value.edges_in.Given as goal

abbrev pub invariant-loop-name : goal.invariant-loop-name
invariant-loop-name l = onto l.edges.items (edges_in (members_view l.name-iterator)) ≡ edges_in (members_view l.members.entries)
