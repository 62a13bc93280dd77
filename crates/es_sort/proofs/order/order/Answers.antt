use Rattle.std.proofs.Common.{◌≡◌, true, is_eq, sym, ◌∙◌, rules}
use Rattle.es_sort.proofs.Walk.{copied_is, key_passed}
use Rattle.es_sort.proofs.order.order.Goals as goal

pub loop-at-preserved : goal.loop-at-preserved
loop-at-preserved c =
    let at = c.loop-at.at in
    let a = copied_is c.args.a.now at c.get.result c.get.ensures.lookup.3 in
    let b = copied_is c.args.b.now at c.get-in-loop-at.result c.get-in-loop-at.ensures.lookup.3 in
    let equal : is_eq c.order_at-order.result ≡ true = search rules in
    sym (key_passed c.args.place c.args.keys.now at c.index-keys-at.result c.loop-at-test.true c.index-keys-at.is c.args.a.now c.args.b.now _ _ c.order_at-order.result a b c.order_at-order.ensures equal) ∙ c.loop-at.invariant
