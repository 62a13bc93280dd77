-- An item begins in the body or at its end.
use Rattle.std.proofs.Common.{◌≤◌, length}
use Rattle.es_calls_rest.proofs.doc_json_calls.actions_text.Given as goal

abbrev pub invariant-items : goal.invariant-items
invariant-items l = l.at ≤ length l.body
