-- A refresh by itself.
use Rattle.std.proofs.Common.{ap, subst, ◌∙◌, List, ℕ, Option}
use Rattle.std.proofs.lemmas.Result.{err_from_is_err_and}
use Rattle.reply_json.specs.declared.fault.RestFault.{RestFault}
use Rattle.reply_json.specs.declared.response.RouteName.TheVariants as route
use Rattle.es_rest.specs.declared.refresh.Refreshed.{Refreshed}
use Rattle.es_rest.specs.declared.refusal.Named.TheVariants as named
use Rattle.es_rest.specs.Led.{RefreshWent}
use Rattle.es_rest.specs.Scripts.{refusal}
use Rattle.es_rest.specs.Talk.{settled}
use Rattle.es_rest.proofs.Led.{refresh_cut, refreshed_all, refreshed_ended}
use Rattle.es_rest.proofs.converse.refresh_route.Goals as goal

pub returns-in_err-numbers-clause-talk : goal.returns-in_err-numbers-clause-talk
returns-in_err-numbers-clause-talk g c =
    let s = g.V.Service in
    let p = err_from_is_err_and c.from_residual-in_err-numbers.result c.from_residual-in_err-numbers.ensures.1 in
    rw p.1 (refresh_cut (s.limits c.args.service.now) (s.seat c.args.service.now) c.args.moment c.args.index.now (s.front c.args.service.now) (s.front c.refresh_index.new.service) c.in_err-numbers.ensures.talk)

pub returns-in-All-clause-talk : goal.returns-in-All-clause-talk
returns-in-All-clause-talk g c =
    let s = g.V.Service in
    let limits = s.limits c.args.service.now in
    let seat = s.seat c.args.service.now in
    let old = s.front c.args.service.now in
    let new = s.front c.refresh_index.new.service in
    let went = subst (λ (f : Refreshed). RefreshWent limits seat c.args.moment c.args.index.now old new f) c.in-All.is c.in_ok-numbers.ensures.talk in
    refreshed_all limits seat c.args.moment c.args.index.now c.in-All.numbers old new c.settle.result went c.settle.ensures

pub returns-in-Ended-clause-talk : goal.returns-in-Ended-clause-talk
returns-in-Ended-clause-talk g c =
    let s = g.V.Service in
    let limits = s.limits c.args.service.now in
    let seat = s.seat c.args.service.now in
    let old = s.front c.args.service.now in
    let new = s.front c.refresh_index.new.service in
    let said = c.in-Ended.said in
    let went = subst (λ (f : Refreshed). RefreshWent limits seat c.args.moment c.args.index.now old new f) c.in-Ended.is c.in_ok-numbers.ensures.talk in
    refreshed_ended limits seat c.args.moment c.args.index.now old new said c.settle-in-Ended.result went
    (c.settle-in-Ended.ensures ∙ ap (λ (r : Option RestFault). settled r said route.Refresh) (c.refusal-refused.ensures ∙ ap (λ (n : List ℕ). refusal (named.Index n) said) (c.in_ok-copy.ensures ∙ c.text.ensures.value)))
