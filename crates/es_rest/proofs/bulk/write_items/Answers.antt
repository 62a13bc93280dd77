-- One item after the other.
use Rattle.std.proofs.Common.{◌≡◌, refl, sym, ap, subst, ◌∙◌, ℕ, List, [], ◌∷◌, length, arith}
use Rattle.std.specs.Prelude.{All}
use Rattle.std.specs.Vec.Iter.{into_iter_items}
use Rattle.std.proofs.lemmas.List.Elements.{All-head, All-tail}
use Rattle.std.proofs.lemmas.Result.{err_from_is_err_and}
use Rattle.doc_json.specs.Bulks.{LiesIn, item_of}
use Rattle.doc_json.specs.declared.bulk.BulkAction.{BulkAction}
use Rattle.list_machine.specs.declared.event.Limits.{Limits}
use Rattle.es_route.specs.Items.{items_with}
use Rattle.es_rest.specs.declared.bulk.Written.{Written}
use Rattle.es_rest.specs.Led.{ItemCut, ItemDone}
use Rattle.es_rest.proofs.Bulks.{Gone, gone_all, gone_cut, gone_done, gone_none, none_left}
use Rattle.es_rest.proofs.Led.{by_names}
use Rattle.es_rest.proofs.bulk.write_items.Goals as goal

pub loop-action-init : goal.loop-action-init
loop-action-init g c =
    let s = g.V.Service in
    let limits = s.limits c.args.service.now in
    let seat = s.seat c.args.service.now in
    let old = s.front c.args.service.now in
    let body = c.args.body.now in
    let all = items_with body c.args.items.items in
    let written : Written = record { lines = c.new.result; changed = c.make.result } in
    let first = c.into_iter-action-iterator.ensures.into_iter_gives in
    record {
      gone = subst (λ (l : List BulkAction). Gone limits seat c.args.moment all old old written (items_with body l)) (sym first.0)
          (gone_none limits seat c.args.moment all old written c.new.ensures.items c.make.ensures);
      within = subst (All (LiesIn body)) (sym first.0) c.requires;
      counted =
          let long = c.args.items.ok.0 in
          let same = ap length first.0 in
          omega (arith, first.1, long, same);
      seat = refl;
      limits = refl;
    }

pub write_item-requires : goal.write_item-requires
write_item-requires g c =
    let at = c.loop-action in
    let next : List BulkAction = into_iter_items c.next.new.self in
    let steps : into_iter_items at.action-iterator ≡ c.in-Some.action ∷ next = c.in-Some.ensures.steps.0 in
    All-head (LiesIn c.args.body.now) c.in-Some.action next (subst (All (LiesIn c.args.body.now)) steps at.invariant.within)

pub loop-action-preserved : goal.loop-action-preserved
loop-action-preserved g c =
    let s = g.V.Service in
    let at = c.loop-action in
    let inv = at.invariant in
    let limits = s.limits c.args.service.now in
    let seat = s.seat c.args.service.now in
    let old = s.front c.args.service.now in
    let now = s.front at.service in
    let new = s.front c.write_item.new.service in
    let body = c.args.body.now in
    let all = items_with body c.args.items.items in
    let action = c.in-Some.action in
    let next : List BulkAction = into_iter_items c.next.new.self in
    let steps : into_iter_items at.action-iterator ≡ action ∷ next = c.in-Some.ensures.steps.0 in
    let gone = subst (λ (l : List BulkAction). Gone limits seat c.args.moment all old now at.written (items_with body l)) steps inv.gone in
    let done = by_names inv.limits inv.seat (λ (k : Limits) (i : ℕ). ItemDone k i c.args.moment now new (item_of body action) at.written c.write_item.new.written) c.in_ok-write_item.ensures.item in
    record {
      gone = gone_done limits seat c.args.moment all old now new at.written c.write_item.new.written (item_of body action) (items_with body next) gone done;
      within = All-tail (LiesIn body) action next (subst (All (LiesIn body)) steps inv.within);
      counted =
          let was = inv.counted in
          let gone_by = c.in-Some.ensures.steps.1 in
          let short = ap length steps in
          omega arith;
      seat = c.in_ok-write_item.ensures.seat ∙ inv.seat;
      limits = c.in_ok-write_item.ensures.limits ∙ inv.limits;
    }

pub returns-in_err-write_item-clause-items : goal.returns-in_err-write_item-clause-items
returns-in_err-write_item-clause-items g c =
    let s = g.V.Service in
    let at = c.loop-action in
    let inv = at.invariant in
    let limits = s.limits c.args.service.now in
    let seat = s.seat c.args.service.now in
    let old = s.front c.args.service.now in
    let now = s.front at.service in
    let new = s.front c.write_item.new.service in
    let body = c.args.body.now in
    let all = items_with body c.args.items.items in
    let action = c.in-Some.action in
    let next : List BulkAction = into_iter_items c.next.new.self in
    let steps : into_iter_items at.action-iterator ≡ action ∷ next = c.in-Some.ensures.steps.0 in
    let gone = subst (λ (l : List BulkAction). Gone limits seat c.args.moment all old now at.written (items_with body l)) steps inv.gone in
    let cut = by_names inv.limits inv.seat (λ (k : Limits) (i : ℕ). ItemCut k i c.args.moment now new (item_of body action)) c.in_err-write_item.ensures.item in
    let p = err_from_is_err_and c.from_residual.result c.from_residual.ensures.1 in
    rw p.1 (gone_cut limits seat c.args.moment all old now new at.written (item_of body action) (items_with body next) gone cut)

pub returns-clause-items : goal.returns-clause-items
returns-clause-items g c =
    let s = g.V.Service in
    let at = c.loop-action in
    let inv = at.invariant in
    let limits = s.limits c.args.service.now in
    let seat = s.seat c.args.service.now in
    let old = s.front c.args.service.now in
    let now = s.front at.service in
    let body = c.args.body.now in
    let all = items_with body c.args.items.items in
    let none = c.in-None.ensures.steps in
    let empty : into_iter_items at.action-iterator ≡ [] = none_left (into_iter_items at.action-iterator) (sym inv.counted ∙ none.0) in
    gone_all limits seat c.args.moment all old now at.written
    (subst (λ (l : List BulkAction). Gone limits seat c.args.moment all old now at.written (items_with body l)) empty inv.gone)
