use Rattle.std.proofs.Common.{◌∙◌, sym, ap, subst, arith}
use Rattle.es_types.specs.declared.mapping.FieldKind.TheVariants as kind
use Rattle.es_types.specs.declared.row.Value.TheVariants as value
use Rattle.es_query.proofs.Widening.{AreKeys, bound_kept, bound_widened, keys_widened, one_in_front}
use Rattle.es_query.proofs.bounds.keys_at.Goals as goal

pub loop-i-preserved-in-Some : goal.loop-i-preserved-in-Some
loop-i-preserved-in-Some c =
    let row = c.index-rows-i.result in
    let front = one_in_front c.args.rows.now c.loop-i.i row (omega arith) (omega arith) c.index-rows-i.is in
    let first = rw (c.as_slice.ensures ∙ ap (λ row. row.values) (sym c.index-rows-i.is)) at c.in-Some.ensures in
    bound_widened kind.Key c.args.place _ row _ front (value.Key c.in-Some.text.now) first
    ∙ keys_widened c.loop-i.found c.in-Some.text c.with_text.result _ c.loop-i.invariant c.with_text.ensures

pub loop-i-preserved : goal.loop-i-preserved
loop-i-preserved c =
    let row = c.index-rows-i.result in
    let front = one_in_front c.args.rows.now c.loop-i.i row (omega arith) (omega arith) c.index-rows-i.is in
    let none = rw (c.as_slice.ensures ∙ ap (λ row. row.values) (sym c.index-rows-i.is)) at c.in_default.ensures in
    subst (AreKeys c.loop-i.found) (sym (bound_kept kind.Key c.args.place _ row _ front none)) c.loop-i.invariant
