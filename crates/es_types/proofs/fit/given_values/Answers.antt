use Rattle.std.proofs.Common.{[], ap, map, set, sym, ◌∙◌, arith}
use Rattle.std.proofs.lemmas.List.{map-set}
use Rattle.std.proofs.Math.Seq.{drop-length}
use Rattle.es_types.specs.Fit.{values_named}
use Rattle.es_types.proofs.Members.{drop_one_less, values_kept, values_of_none, values_placed}
use Rattle.es_types.proofs.Names.{mapping_rises, placed_from_position}
use Rattle.es_types.proofs.fit.given_values.Goals as goal

-- after the last member nothing is given
pub loop-i-init : goal.loop-i-init
loop-i-init c =
    ap (map (λ value. value.now)) (c.in_ok-given.ensures.items_if_clones_equal (λ null same. same))
    ∙ values_of_none c.args.null c.fields.result.now c.requires
    ∙ ap (λ fields. values_named fields []) c.fields.ensures.value
    ∙ ap (values_named c.args.mapping.now) (sym (drop-length c.args.members.now))

-- the member's value is written in the place of its name
pub loop-i-preserved-in-Some : goal.loop-i-preserved-in-Some
loop-i-preserved-in-Some c =
    let fields = c.args.mapping.now in
    let member = c.index-members-i.result in
    let found = placed_from_position member.name fields _ (rw c.as_str.ensures at c.in-Some.ensures) in
    map-set (λ value. value.now) c.loop-i.given.items c.in-Some.place _
    ∙ ap (λ values. set values c.in-Some.place member.value) c.loop-i.invariant
    ∙ values_placed fields c.in-Some.place member _ (mapping_rises fields c.fields.ensures.valid) found.0 found.1
    ∙ ap (values_named fields) (sym (drop_one_less c.args.members.now c.loop-i.i member (omega arith) (omega arith) c.index-members-i.is))

-- no field has the member's name
pub loop-i-preserved : goal.loop-i-preserved
loop-i-preserved c =
    let fields = c.args.mapping.now in
    let member = c.index-members-i.result in
    c.loop-i.invariant
    ∙ values_kept fields member _ (placed_from_position member.name fields _ (rw c.as_str.ensures at c.in_default.ensures))
    ∙ ap (values_named fields) (sym (drop_one_less c.args.members.now c.loop-i.i member (omega arith) (omega arith) c.index-members-i.is))
