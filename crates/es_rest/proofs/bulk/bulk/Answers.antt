-- The Writes of a bulk, and its refreshes.
use Rattle.std.proofs.Common.{◌≡◌, refl, sym, ap, ap₂, subst, ◌∙◌, ℕ, List, Option, Some, None, Ok}
use Rattle.std.specs.Prelude.{All}
use Rattle.std.proofs.lemmas.Result.{err_from_is_err_and}
use Rattle.doc_json.specs.Bulks.{LiesIn}
use Rattle.doc_json.specs.declared.bulk.BulkItem.{BulkItem}
use Rattle.list_machine.specs.declared.event.Limits.{Limits}
use Rattle.reply_json.specs.declared.fault.RestFault.{RestFault}
use Rattle.reply_json.specs.declared.response.BulkLine.{BulkLine}
use Rattle.reply_json.specs.declared.response.Response.TheVariants as response
use Rattle.es_route.specs.Items.{AreActions, items_of, items_with}
use Rattle.es_rest.specs.Scripts.{CutShort, RanScript, refreshes}
use Rattle.es_rest.proofs.BulkTalks.{bulk_cut, bulk_done, bulk_strayed}
use Rattle.es_rest.proofs.Led.{by_names}
use Rattle.es_rest.proofs.bulk.bulk.Goals as goal

pub write_items-requires : goal.write_items-requires
write_items-requires g c =
    let sound : AreActions c.args.index c.args.body c.args.items = c.requires in
    subst (λ (b : List ℕ). All (LiesIn b) c.into_inner.result.items) (sym c.as_slice.ensures) (subst (All (LiesIn c.args.body)) (sym c.into_inner.ensures) sound.within)

pub returns-in_err-written-clause-talk : goal.returns-in_err-written-clause-talk
returns-in_err-written-clause-talk g c =
    let s = g.V.Service in
    let sound : AreActions c.args.index c.args.body c.args.items = c.requires in
    let items : List BulkItem = items_with c.as_slice.result.now c.into_inner.result.items in
    let are : items_of c.args.index c.args.body ≡ Ok items = sound.items ∙ ap Ok (ap₂ items_with (sym c.as_slice.ensures) (sym c.into_inner.ensures)) in
    let p = err_from_is_err_and c.from_residual.result c.from_residual.ensures.1 in
    rw p.1 (bulk_cut (s.limits c.args.service.now) (s.seat c.args.service.now) c.args.moment c.args.index c.args.body c.args.refresh c.args.items items are (s.front c.args.service.now) (s.front c.write_items.new.service)
    c.in_err-written.ensures.items)

pub returns-in_err-fault-clause-talk : goal.returns-in_err-fault-clause-talk
returns-in_err-fault-clause-talk g c =
    let s = g.V.Service in
    let mid = s.front c.write_items.new.service in
    let new = s.front c.refresh_all.new.service in
    let sound : AreActions c.args.index c.args.body c.args.items = c.requires in
    let items : List BulkItem = items_with c.as_slice.result.now c.into_inner.result.items in
    let are : items_of c.args.index c.args.body ≡ Ok items = sound.items ∙ ap Ok (ap₂ items_with (sym c.as_slice.ensures) (sym c.into_inner.ensures)) in
    let cut = by_names c.in_ok-written.ensures.limits c.in_ok-written.ensures.seat (λ (k : Limits) (i : ℕ). CutShort k i c.args.moment (refreshes c.names_if.result.now) mid new) c.in_err-fault.ensures.talk in
    let p = err_from_is_err_and c.from_residual-in_err-fault.result c.from_residual-in_err-fault.ensures.1 in
    rw p.1 (bulk_strayed (s.limits c.args.service.now) (s.seat c.args.service.now) c.args.moment c.args.index c.args.body c.args.refresh c.args.items items are (s.front c.args.service.now) mid new
    c.in_ok-written.written c.names_if.result.now c.in_ok-written.ensures.items c.names_if.ensures cut)

pub returns-in-Some-clause-talk : goal.returns-in-Some-clause-talk
returns-in-Some-clause-talk g c =
    let s = g.V.Service in
    let mid = s.front c.write_items.new.service in
    let new = s.front c.refresh_all.new.service in
    let sound : AreActions c.args.index c.args.body c.args.items = c.requires in
    let items : List BulkItem = items_with c.as_slice.result.now c.into_inner.result.items in
    let are : items_of c.args.index c.args.body ≡ Ok items = sound.items ∙ ap Ok (ap₂ items_with (sym c.as_slice.ensures) (sym c.into_inner.ensures)) in
    let ran = by_names c.in_ok-written.ensures.limits c.in_ok-written.ensures.seat (λ (k : Limits) (i : ℕ). RanScript k i c.args.moment (refreshes c.names_if.result.now) mid new (Some c.in-Some.fault))
    (subst (λ (f : Option RestFault). RanScript (s.limits c.write_items.new.service) (s.seat c.write_items.new.service) c.args.moment (refreshes c.names_if.result.now) mid new f) c.in-Some.is c.in_ok-fault.ensures.talk) in
    bulk_done (s.limits c.args.service.now) (s.seat c.args.service.now) c.args.moment c.args.index c.args.body c.args.refresh c.args.items items are (s.front c.args.service.now) mid new
    c.in_ok-written.written c.names_if.result.now (Some c.in-Some.fault) _ c.in_ok-written.ensures.items c.names_if.ensures ran refl

pub returns-clause-talk : goal.returns-clause-talk
returns-clause-talk g c =
    let s = g.V.Service in
    let mid = s.front c.write_items.new.service in
    let new = s.front c.refresh_all.new.service in
    let sound : AreActions c.args.index c.args.body c.args.items = c.requires in
    let items : List BulkItem = items_with c.as_slice.result.now c.into_inner.result.items in
    let are : items_of c.args.index c.args.body ≡ Ok items = sound.items ∙ ap Ok (ap₂ items_with (sym c.as_slice.ensures) (sym c.into_inner.ensures)) in
    let ran = by_names c.in_ok-written.ensures.limits c.in_ok-written.ensures.seat (λ (k : Limits) (i : ℕ). RanScript k i c.args.moment (refreshes c.names_if.result.now) mid new None)
    (subst (λ (f : Option RestFault). RanScript (s.limits c.write_items.new.service) (s.seat c.write_items.new.service) c.args.moment (refreshes c.names_if.result.now) mid new f) c.in-None.is c.in_ok-fault.ensures.talk) in
    bulk_done (s.limits c.args.service.now) (s.seat c.args.service.now) c.args.moment c.args.index c.args.body c.args.refresh c.args.items items are (s.front c.args.service.now) mid new
    c.in_ok-written.written c.names_if.result.now None _ c.in_ok-written.ensures.items c.names_if.ensures ran (ap (λ (l : List BulkLine). Some (response.Bulk l)) (sym c.of.ensures))
