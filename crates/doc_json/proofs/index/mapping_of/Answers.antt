use Rattle.std.proofs.Common.{Some, length, ◌≤◌, ap, sym, ◌∙◌, arith}
use Rattle.std.proofs.lemmas.Bool.{false≢true}
use Rattle.es_types.specs.Fields.{is_mapping}
use Rattle.doc_json.specs.Indexes.{are_named}
use Rattle.doc_json.proofs.Fields.{is_a_mapping, mapped_fields, too_many}
use Rattle.doc_json.proofs.index.mapping_of.Goals as goal

pub returns-then-len-gt-MAPPING_FIELDS : goal.returns-then-len-gt-MAPPING_FIELDS
returns-then-len-gt-MAPPING_FIELDS c = sym (too_many c.args.members.now.entries (omega arith))

-- the names are in order, since the keys are
pub unreachable-requires : goal.unreachable-requires
unreachable-requires c =
    let entries = c.args.members.now.entries in
    let few : length entries ≤ 1000 = omega arith in
    let found = rw c.in-Some.is at c.in_ok-fields.ensures in
    let taken = ap is_mapping (c.of.ensures ∙ found.0) ∙ is_a_mapping entries few c.len.ensures.ordered in
    false≢true (sym c.in-Err.ensures.1 ∙ taken)

pub returns : goal.returns
returns c =
    let entries = c.args.members.now.entries in
    let few : length entries ≤ 1000 = omega arith in
    let found = rw c.in-Some.is at c.in_ok-fields.ensures in
    ap Some (c.in-Ok.ensures.0 ∙ c.of.ensures ∙ found.0) ∙ sym (mapped_fields entries few (ap are_named (sym found.0) ∙ found.1))
