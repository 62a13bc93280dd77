-- The closure compares a field's name with the given one.
use Rattle.std.proofs.Common.{◌∙◌, ap, rules}
use Rattle.std.specs.Cmp.Lexicographic.{slice_cmp}
use Rattle.std.specs.Ordering.{nat_cmp}
use Rattle.std.proofs.lemmas.Fn.{always_returns_same}
use Rattle.es_types.specs.Fields.{is_mapping}
use Rattle.es_types.proofs.Names.{first_searched}
use Rattle.es_types.proofs.mapping.Mapping.place_of.Goals as goal

pub returns : goal.returns
returns c =
    let facts = c.binary_search_by.ensures in
    let by_name = facts.position (λ field. slice_cmp nat_cmp field.name c.args.name.now) (always_returns_same _ _ _ (λ a r g called. search rules)) in
    rw (c.ok.ensures.value, ← c.fields.ensures.value) (first_searched c.args.name.now c.fields.result.now c.binary_search_by.result (ap is_mapping c.fields.ensures.value ∙ c.fields.ensures.valid) facts.bound by_name)
