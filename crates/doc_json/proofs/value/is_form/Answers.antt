-- The members are counted by their entries, and the names by what they refer to.
use Rattle.std.proofs.Common.{◌+◌, ap, cond, eqb, false, is_some, sym, ◌∙◌}
use Rattle.std.specs.Option.{option_map_or}
use Rattle.std.proofs.lemmas.List.Folds.{fold-map}
use Rattle.serde_json.specs.Find.{as_object, get}
use Rattle.serde_json.specs.View.{view}
use Rattle.doc_json.specs.Json.{count_of}
use Rattle.doc_json.proofs.Forms.{count_members}
use Rattle.doc_json.proofs.value.is_form.Goals as goal

pub returns-in-Some : goal.returns-in-Some
returns-in-Some c =
    let entries = c.in-Some.members.now.entries in
    let given = c.count_given.ensures ∙ sym (fold-map (λ count name. count + cond (is_some (get name (view c.args.value.now))) 1 0) (λ name. name.now) 0 c.args.names.now) in
    ap (λ n. eqb n c.count_given.result) (c.len.ensures.len ∙ sym (count_members entries))
    ∙ ap (λ o. option_map_or (λ members. eqb (count_of members) c.count_given.result) o false) c.in-Some.ensures
    ∙ ap (λ n. option_map_or (λ members. eqb (count_of members) n) (as_object (view c.args.value.now)) false) given
