-- The fields so far, which are named, and then those of the entries that are left, are all fields.
use Rattle.std.proofs.Common.{◌≡◌, ◌++◌, true}
use Rattle.serde_json.specs.View.{members_view}
use Rattle.doc_json.specs.Indexes.{are_named, fields_of}
use Rattle.doc_json.proofs.index.fields_of.Given as goal

abbrev pub invariant-loop-name : goal.invariant-loop-name
invariant-loop-name l = record {
  all : l.fields.items ++ fields_of (members_view l.name-iterator) ≡ fields_of (members_view l.members.entries);
  named : are_named l.fields.items ≡ true;
}
