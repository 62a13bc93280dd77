-- One index after the other.
use Rattle.std.proofs.Common.{◌≡◌, ◌∙◌, ap, subst, List, ℕ, arith}
use Rattle.std.proofs.lemmas.Result.{err_from_is_err_and}
use Rattle.list_machine.specs.declared.event.Limits.{Limits}
use Rattle.es_rest.specs.declared.refresh.Refreshed.{Refreshed}
use Rattle.es_rest.specs.declared.refusal.Named.TheVariants as named
use Rattle.es_rest.specs.Led.{EndedBy, RefreshWent, WasRefreshed}
use Rattle.es_rest.specs.Scripts.{Strayed, refresh, refusal}
use Rattle.es_rest.proofs.Led.{by_names}
use Rattle.es_rest.proofs.Refreshes.{cleared_all, cleared_cut, cleared_ended, cleared_more, cleared_none_more}
use Rattle.es_rest.proofs.Scripts.{at_item}
use Rattle.es_rest.proofs.refresh.refresh_all.Goals as goal

pub returns-in_err-copy-clause-talk : goal.returns-in_err-copy-clause-talk
returns-in_err-copy-clause-talk g c =
    let s = g.V.Service in
    let p = err_from_is_err_and c.from_residual.result c.from_residual.ensures.1 in
    rw p.1 (cleared_none_more (s.limits c.args.service.now) (s.seat c.args.service.now) c.args.moment c.args.indexes.now (s.front c.args.service.now) (s.front c.loop-index.service) c.loop-index.index-index c.loop-index.invariant.cleared)

pub returns-in_err-said-clause-talk : goal.returns-in_err-said-clause-talk
returns-in_err-said-clause-talk g c =
    let s = g.V.Service in
    let mid = s.front c.loop-index.service in
    let new = s.front c.refresh_index.new.service in
    let index = c.index-item.result in
    let p = err_from_is_err_and c.from_residual-in_err-said.result c.from_residual-in_err-said.ensures.1 in
    let strayed = by_names c.loop-index.invariant.limits c.loop-index.invariant.seat (λ (k : Limits) (i : ℕ). Strayed k i c.args.moment (refresh index) mid new) c.in_err-said.ensures.talk in
    rw p.1 (cleared_cut (s.limits c.args.service.now) (s.seat c.args.service.now) c.args.moment c.args.indexes.now (s.front c.args.service.now) mid new c.loop-index.index-index index c.loop-index.invariant.cleared (at_item c.args.indexes.now c.loop-index.index-index index c.loop-index-test.true c.index-item.is) strayed)

pub returns-in-Ended-clause-talk : goal.returns-in-Ended-clause-talk
returns-in-Ended-clause-talk g c =
    let s = g.V.Service in
    let mid = s.front c.loop-index.service in
    let new = s.front c.refresh_index.new.service in
    let index = c.index-item.result in
    let went = subst (λ (f : Refreshed). RefreshWent (s.limits c.loop-index.service) (s.seat c.loop-index.service) c.args.moment index mid new f) c.in-Ended.is c.in_ok-said.ensures.talk in
    let ended = by_names c.loop-index.invariant.limits c.loop-index.invariant.seat (λ (k : Limits) (i : ℕ). EndedBy k i c.args.moment index mid new c.in-Ended.said) went in
    let is : c.refusal.result ≡ refusal (named.Index index) c.in-Ended.said = c.refusal.ensures ∙ ap (λ (n : List ℕ). refusal (named.Index n) c.in-Ended.said) (c.in_ok-copy.ensures ∙ c.text.ensures.value) in
    rw is (cleared_ended (s.limits c.args.service.now) (s.seat c.args.service.now) c.args.moment c.args.indexes.now (s.front c.args.service.now) mid new c.loop-index.index-index index c.in-Ended.said c.loop-index.invariant.cleared (at_item c.args.indexes.now c.loop-index.index-index index c.loop-index-test.true c.index-item.is) ended)

pub loop-index-preserved : goal.loop-index-preserved
loop-index-preserved g c =
    let s = g.V.Service in
    let mid = s.front c.loop-index.service in
    let new = s.front c.refresh_index.new.service in
    let index = c.index-item.result in
    let numbers = c.in-All.field-0 in
    let went = subst (λ (f : Refreshed). RefreshWent (s.limits c.loop-index.service) (s.seat c.loop-index.service) c.args.moment index mid new f) c.in-All.is c.in_ok-said.ensures.talk in
    let was = by_names c.loop-index.invariant.limits c.loop-index.invariant.seat (λ (k : Limits) (i : ℕ). WasRefreshed k i c.args.moment index mid new numbers) went in
    record {
      cleared = cleared_more (s.limits c.args.service.now) (s.seat c.args.service.now) c.args.moment c.args.indexes.now (s.front c.args.service.now) mid new c.loop-index.index-index index numbers c.loop-index.invariant.cleared (at_item c.args.indexes.now c.loop-index.index-index index c.loop-index-test.true c.index-item.is) was;
      seat = c.in_ok-said.ensures.seat ∙ c.loop-index.invariant.seat;
      limits = c.in_ok-said.ensures.limits ∙ c.loop-index.invariant.limits;
    }

pub returns-clause-talk : goal.returns-clause-talk
returns-clause-talk g c =
    let s = g.V.Service in
    cleared_all (s.limits c.args.service.now) (s.seat c.args.service.now) c.args.moment c.args.indexes.now (s.front c.args.service.now) (s.front c.loop-index.service) c.loop-index.index-index c.loop-index.invariant.cleared
    (omega (arith, c.loop-index-test.false))
