use Rattle.std.proofs.Common.{Err, ap, sym, ◌∙◌, arith}
use Rattle.es_types.proofs.Fitted.{fit_fails, fit_more, given_at}
use Rattle.es_types.proofs.fit.values_of.Goals as goal

-- the first field without a value
pub returns-in-Err-Is : goal.returns-in-Err-Is
returns-in-Err-Is c = λ members given.
    let fields = c.args.fields.now in
    let field = c.index-fields-i.result in
    let named = given_at fields members c.loop-i.i field (omega arith) c.args.given.now c.index-given-i.result given c.requires.one_each c.index-given-i.is in
    c.loop-i.invariant members given
    ∙ fit_fails fields members c.loop-i.i field (omega arith) _ named c.loop-i.values.items c.in-Err-Is.cause (rw c.in-Err-Is.field-0-is at c.in-Err-Is.ensures)
    ∙ ap (λ cause. Err (record { field = c.loop-i.i; cause = cause })) (sym c.in-Err-Is.cause-is)

-- one more field with its value
pub loop-i-preserved : goal.loop-i-preserved
loop-i-preserved c = λ members given.
    let fields = c.args.fields.now in
    let field = c.index-fields-i.result in
    let named = given_at fields members c.loop-i.i field (omega arith) c.args.given.now c.index-given-i.result given c.requires.one_each c.index-given-i.is in
    c.loop-i.invariant members given
    ∙ fit_more fields members c.loop-i.i field (omega arith) _ named c.loop-i.values.items c.in-Ok.value _ c.in-Ok.ensures c.in_ok-push-in-Ok.ensures.items
