use Rattle.std.proofs.Common.{ap, sym, ◌∙◌, arith}
use Rattle.es_types.specs.Values.{is_kind}
use Rattle.es_types.proofs.Lookups.{value_found, value_refused, values_short, values_unmapped}
use Rattle.es_types.proofs.mapping.Mapping.value_of.Goals as goal

pub returns-in_err-place : goal.returns-in_err-place
returns-in_err-place c = rw c.from_residual.ensures (values_unmapped c.args.name.now c.args.self.now c.args.values.now c.in_err-place.ensures)

pub returns-in_err-value : goal.returns-in_err-value
returns-in_err-value c = rw c.from_residual-in_err-value.ensures (values_short c.args.name.now c.args.self.now c.in_ok-place.place c.in_ok-place.ensures c.args.values.now (omega (arith, c.in_err-value.ensures.lookup.3)))

pub returns-then-is_of : goal.returns-then-is_of
returns-then-is_of c =
    let field = c.index-fields-place.result in
    let read = rw c.fields.ensures.value at c.index-fields-place.is in
    let looked = c.in_ok-value.ensures.lookup in
    value_found c.args.name.now c.args.self.now c.in_ok-place.place c.in_ok-place.ensures field read c.args.values.now c.in_ok-value.value.now (omega (arith, looked.3.0)) looked.1 (ap (λ field. is_kind field.kind c.in_ok-value.value.now) c.index-fields-place.is ∙ sym c.is_of.ensures ∙ c.if-is_of.true)

pub returns-else-is_of : goal.returns-else-is_of
returns-else-is_of c =
    let field = c.index-fields-place.result in
    let read = rw c.fields.ensures.value at c.index-fields-place.is in
    let looked = c.in_ok-value.ensures.lookup in
    value_refused c.args.name.now c.args.self.now c.in_ok-place.place c.in_ok-place.ensures field read c.args.values.now c.in_ok-value.value.now (omega (arith, looked.3.0)) looked.1 (ap (λ field. is_kind field.kind c.in_ok-value.value.now) c.index-fields-place.is ∙ sym c.is_of.ensures ∙ c.if-is_of.false)
