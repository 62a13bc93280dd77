-- The members so far, and then those of the entries that are left, are all members.
use Rattle.std.proofs.Common.{◌≡◌, ◌++◌}
use Rattle.serde_json.specs.View.{members_view}
use Rattle.doc_json.specs.Documents.{members_of}
use Rattle.doc_json.proofs.document.members_of.Given as goal

abbrev pub invariant-loop-name : goal.invariant-loop-name
invariant-loop-name l = l.all.items ++ members_of (members_view l.name-iterator) ≡ members_of (members_view l.fn.members.entries)
