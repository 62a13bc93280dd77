-- The entries that are left decide.
use Rattle.std.proofs.Common.{◌≡◌}
use Rattle.serde_json.specs.View.{members_view}
use Rattle.doc_json.specs.Indexes.{are_fields}
use Rattle.doc_json.proofs.index.are_fields.Given as goal

abbrev pub invariant-loop-value : goal.invariant-loop-value
invariant-loop-value l = are_fields (members_view l.value-iterator) ≡ are_fields (members_view l.members.entries)
