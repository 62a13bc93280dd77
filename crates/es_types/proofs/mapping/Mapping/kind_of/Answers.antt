use Rattle.std.proofs.Common.{Some, ap, sym, ◌∙◌}
use Rattle.es_types.proofs.Lookups.{kind_found, kind_unmapped}
use Rattle.es_types.proofs.mapping.Mapping.kind_of.Goals as goal

pub returns-in_err-place : goal.returns-in_err-place
returns-in_err-place c = c.from_residual.ensures ∙ sym (kind_unmapped c.args.name.now c.args.self.now c.in_err-place.ensures)

pub returns : goal.returns
returns c =
    let read = rw c.fields.ensures.value at c.index-fields-place.is in
    ap (λ field. Some field.kind) (sym c.index-fields-place.is) ∙ sym (kind_found c.args.name.now c.args.self.now c.in_ok-place.place c.in_ok-place.ensures c.index-fields-place.result read)
