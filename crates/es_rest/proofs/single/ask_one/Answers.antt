-- A request of one event.
use Rattle.std.proofs.Common.{sym, subst, ◌∙◌, List, ℕ}
use Rattle.std.proofs.lemmas.Result.{err_from_is_err_and}
use Rattle.list_machine.specs.declared.event.Limits.{Limits}
use Rattle.es_rest.specs.Scripts.{CutShort, RanScript, refreshes}
use Rattle.es_rest.proofs.Led.{by_names, one_cut_first, one_cut_later, one_refused, one_taken}
use Rattle.es_rest.proofs.single.ask_one.Goals as goal

pub returns-in_err-reply-clause-talk : goal.returns-in_err-reply-clause-talk
returns-in_err-reply-clause-talk g c ask label =
    let s = g.V.Service in
    let p = err_from_is_err_and c.from_residual.result c.from_residual.ensures.1 in
    rw p.1 (one_cut_first (s.limits c.args.service.now) (s.seat c.args.service.now) c.args.moment ask c.args.event c.args.label.names c.args.label.route c.args.label.refreshed.items
    (s.front c.args.service.now) (s.front c.ask.new.self) label c.in_err-reply.ensures.asked)

pub returns-in-Some-clause-talk : goal.returns-in-Some-clause-talk
returns-in-Some-clause-talk g c ask label =
    let s = g.V.Service in
    one_refused (s.limits c.args.service.now) (s.seat c.args.service.now) c.args.moment ask c.args.event c.args.label.names c.args.label.route c.args.label.refreshed.items
    (s.front c.args.service.now) (s.front c.ask.new.self) c.in_ok-reply.reply c.in-Some.fault label c.in_ok-reply.ensures.asked (sym c.refusal.ensures ∙ c.in-Some.is)

pub returns-in_err-refused-clause-talk : goal.returns-in_err-refused-clause-talk
returns-in_err-refused-clause-talk g c ask label =
    let s = g.V.Service in
    let mid = s.front c.ask.new.self in
    let new = s.front c.refresh_all.new.service in
    let cut = by_names c.in_ok-reply.ensures.limits c.in_ok-reply.ensures.seat (λ (k : Limits) (i : ℕ). CutShort k i c.args.moment (refreshes c.args.label.refreshed.items) mid new)
    (subst (λ (l : List (List ℕ)). CutShort (s.limits c.ask.new.self) (s.seat c.ask.new.self) c.args.moment (refreshes l) mid new) c.deref.ensures.value c.in_err-refused.ensures.talk) in
    let p = err_from_is_err_and c.from_residual-in_err-refused.result c.from_residual-in_err-refused.ensures.1 in
    rw p.1 (one_cut_later (s.limits c.args.service.now) (s.seat c.args.service.now) c.args.moment ask c.args.event c.args.label.names c.args.label.route c.args.label.refreshed.items
    (s.front c.args.service.now) mid new c.in_ok-reply.reply label c.in_ok-reply.ensures.asked (sym c.refusal.ensures ∙ c.in-None.is) cut)

pub returns-clause-talk : goal.returns-clause-talk
returns-clause-talk g c ask label =
    let s = g.V.Service in
    let mid = s.front c.ask.new.self in
    let new = s.front c.refresh_all.new.service in
    let ran = by_names c.in_ok-reply.ensures.limits c.in_ok-reply.ensures.seat (λ (k : Limits) (i : ℕ). RanScript k i c.args.moment (refreshes c.args.label.refreshed.items) mid new c.in_ok-refused.refused)
    (subst (λ (l : List (List ℕ)). RanScript (s.limits c.ask.new.self) (s.seat c.ask.new.self) c.args.moment (refreshes l) mid new c.in_ok-refused.refused) c.deref.ensures.value c.in_ok-refused.ensures.talk) in
    one_taken (s.limits c.args.service.now) (s.seat c.args.service.now) c.args.moment ask c.args.event c.args.label.names c.args.label.route c.args.label.refreshed.items
    (s.front c.args.service.now) mid new c.in_ok-reply.reply c.in_ok-refused.refused c.settle.result label c.in_ok-reply.ensures.asked (sym c.refusal.ensures ∙ c.in-None.is) ran c.settle.ensures
