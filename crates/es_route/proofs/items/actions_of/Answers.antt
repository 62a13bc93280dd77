-- Each item is a byte long at least, so that all are gone through.
use Rattle.std.proofs.Common.{◌≡◌, Err, Ok, ap, option_map, subst, sym, ◌∙◌, List, [], ◌∷◌, ◌++◌}
use Rattle.doc_json.specs.declared.bulk.BulkAction.{BulkAction}
use Rattle.es_route.specs.Limits.{body_fault}
use Rattle.es_route.specs.Items.{actions_of, checked}
use Rattle.es_route.specs.Answers.{Answers}
use Rattle.es_route.proofs.Walks.{fault_told, walk_fails, walk_next, walk_starts}
use Rattle.es_route.proofs.items.actions_of.Goals as goal

pub items-init : goal.items-init
items-init c = walk_starts (option_map (λ name. name.now) c.args.index) c.args.body.now c.new-actions.result.items c.new-actions.ensures.items

pub items-preserved : goal.items-preserved
items-preserved c =
    let on = rw c.in-Ok-Some.field-0-is at c.in-Ok-Some.ensures.onward in
    let lies = rw c.in-Ok-Some.field-0-is at c.in-Ok-Some.ensures.within in
    walk_next (option_map (λ name. name.now) c.args.index) c.args.body.now c.items.at c.in-Ok-Some.action c.items.actions.items c.push_reserved.new.self.items
    (c.in-Ok-Some.ensures.answer ∙ ap Ok c.in-Ok-Some.field-0-is) on.0 on.1 lies
    (c.push_reserved.ensures.items ∙ ap (λ (l : List BulkAction). l ++ c.in-Ok-Some.action ∷ []) c.in_ok-reserve-in-Ok-Some.ensures.items) c.items.invariant

-- at a fault
pub returns-in-Err-Is-clause-answer : goal.returns-in-Err-Is-clause-answer
returns-in-Err-Is-clause-answer c =
    let index = option_map (λ name. name.now) c.args.index in
    let asked = checked (actions_of index c.args.body.now) in
    let is : asked ≡ Err (body_fault c.in-Err-Is.fault) = walk_fails index c.args.body.now c.items.at c.items.actions.items c.in-Err-Is.fault (rw c.in-Err-Is.field-0-is at c.in-Err-Is.ensures.answer) c.items.invariant in
    subst (λ f. Answers (Err f) asked) (sym (c.body_fault.ensures ∙ ap body_fault c.in-Err-Is.fault-is)) (fault_told c.in-Err-Is.fault asked is)
