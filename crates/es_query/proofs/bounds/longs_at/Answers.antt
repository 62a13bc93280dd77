use Rattle.std.proofs.Common.{◌∙◌, sym, ap, subst, arith, rules, SFits, w64}
use Rattle.std.proofs.lemmas.Int.{to_z-of_z}
use Rattle.es_types.specs.declared.mapping.FieldKind.TheVariants as kind
use Rattle.es_types.specs.declared.row.Value.TheVariants as value
use Rattle.es_query.proofs.Widening.{AreLongs, bound_kept, bound_widened, longs_widened, one_in_front}
use Rattle.es_query.proofs.bounds.longs_at.Goals as goal

pub loop-i-preserved-in-Some : goal.loop-i-preserved-in-Some
loop-i-preserved-in-Some c =
    let row = c.index-rows-i.result in
    let front = one_in_front c.args.rows.now c.loop-i.i row (omega arith) (omega arith) c.index-rows-i.is in
    let first = rw (c.as_slice.ensures ∙ ap (λ row. row.values) (sym c.index-rows-i.is)) at c.in-Some.ensures in
    let fits : SFits w64 c.in-Some.number = search rules in
    let given = simp to_z-of_z at c.with_number.ensures in
    bound_widened kind.Long c.args.place _ row _ front (value.Long c.in-Some.number) first
    ∙ longs_widened c.loop-i.found c.in-Some.number c.with_number.result _ c.loop-i.invariant given

pub loop-i-preserved : goal.loop-i-preserved
loop-i-preserved c =
    let row = c.index-rows-i.result in
    let front = one_in_front c.args.rows.now c.loop-i.i row (omega arith) (omega arith) c.index-rows-i.is in
    let none = rw (c.as_slice.ensures ∙ ap (λ row. row.values) (sym c.index-rows-i.is)) at c.in_default.ensures in
    subst (AreLongs c.loop-i.found) (sym (bound_kept kind.Long c.args.place _ row _ front none)) c.loop-i.invariant
