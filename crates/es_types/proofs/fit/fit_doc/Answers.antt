use Rattle.std.proofs.Common.{Bor, ap, map, subst, sym, ◌∙◌}
use Rattle.es_types.specs.Fail.{Answers}
use Rattle.es_types.specs.Fields.{fit}
use Rattle.es_types.specs.Fit.{values_named}
use Rattle.es_types.specs.declared.doc.DocValue.{DocValue}
use Rattle.es_types.proofs.FitKinds.{answer_kinds}
use Rattle.es_types.proofs.fit.fit_doc.Goals as goal

pub returns-clause-kinds : goal.returns-clause-kinds
returns-clause-kinds c =
    let mapping = c.args.mapping.now in
    let members = c.args.doc.now.members in
    let given = ap (map (λ (value : Bor DocValue). value.now)) c.deref.ensures.value
    ∙ c.in_ok-given.ensures
    ∙ ap (values_named mapping) c.as_slice.ensures
    ∙ ap (λ fields. values_named fields members) (sym c.fields.ensures.value) in
    answer_kinds mapping members c.values_of.result
    (subst (λ fields. Answers c.values_of.result (fit fields members)) c.fields.ensures.value (c.values_of.ensures members given))
