-- A Seal, and a Publish of each shard where it was answered numbers.
use Rattle.std.proofs.Common.{◌≡◌, ◌≤◌, subst, sym, length, List, ℕ, Option, Some, None}
use Rattle.std.proofs.lemmas.Result.{err_from_is_err_and}
use Rattle.es_types.specs.declared.limits.TheConstants.{ALL_SHARDS}
use Rattle.list_machine.specs.declared.event.Event.TheVariants.{Seal}
use Rattle.list_machine.specs.declared.event.Limits.{Limits}
use Rattle.list_machine.specs.declared.event.Reply.{Reply}
use Rattle.list_machine.specs.declared.event.Reply.TheVariants.{Sealed}
use Rattle.list_machine.specs.Run.{History}
use Rattle.list_machine.specs.Serving.{Asked, asked}
use Rattle.es_rest.specs.Led.{Published}
use Rattle.es_rest.specs.Scripts.{Strayed, publishes}
use Rattle.es_rest.proofs.Led.{by_names}
use Rattle.es_rest.proofs.Refreshes.{ended_first, ended_later, strayed_later, was_refreshed}
use Rattle.es_rest.proofs.Talks.{few_sealed}
use Rattle.es_rest.proofs.refresh.refresh_index.Goals as goal

-- the Seal, by the names that the function has for it
seal_as : (limits : Limits) (seat moment : ℕ) (old new : History) (index other numbers : List ℕ) (reply : Reply) → other ≡ index → reply ≡ Sealed numbers
    → Asked limits seat 4 old new (asked seat moment (Seal other)) reply → Asked limits seat 4 old new (asked seat moment (Seal index)) (Sealed numbers)
seal_as limits seat moment old new index other numbers reply named is was =
    subst (λ (said : Reply). Asked limits seat 4 old new (asked seat moment (Seal index)) said) is
    (subst (λ (i : List ℕ). Asked limits seat 4 old new (asked seat moment (Seal i)) reply) named was)

published_as : {limits other : Limits} {seat others : ℕ} → other ≡ limits → others ≡ seat → (moment : ℕ) (index numbers slice : List ℕ) (old new : History) (said found : Option Reply) → slice ≡ numbers → found ≡ said
    → Published other others moment index slice old new found → Published limits seat moment index numbers old new said
published_as {limits} {other} {seat} {others} l s moment index numbers slice old new said found these is h =
    by_names l s (λ k i. Published k i moment index numbers old new said)
    (subst (λ (o : Option Reply). Published other others moment index numbers old new o) is
    (subst (λ (n : List ℕ). Published other others moment index n old new found) these h))

pub publish_all-requires-clause-few : goal.publish_all-requires-clause-few
publish_all-requires-clause-few g c =
    let s = g.V.Service in
    subst (λ (n : List ℕ). length n ≤ ALL_SHARDS) (sym c.as_slice.ensures)
    (few_sealed (s.limits c.args.service.now) (s.seat c.args.service.now) c.args.moment ALL_SHARDS (s.front c.args.service.now) (s.front c.ask.new.self) c.in_ok-sealed.sealed c.in-Ok.numbers c.in_ok-reply.reply
    (c.sound_states.ensures.sealed (s.limits c.args.service.now)) c.in_ok-reply.ensures.asked c.in-Ok.ensures)

pub returns-in_err-publish_all-in-Ok-clause-talk : goal.returns-in_err-publish_all-in-Ok-clause-talk
returns-in_err-publish_all-in-Ok-clause-talk g c =
    let s = g.V.Service in
    let limits = s.limits c.args.service.now in
    let seat = s.seat c.args.service.now in
    let old = s.front c.args.service.now in
    let mid = s.front c.ask.new.self in
    let new = s.front c.publish_all.new.service in
    let index = c.args.index.now in
    let numbers = c.in-Ok.numbers in
    let moment = c.args.moment in
    let was = seal_as limits seat moment old mid index c.in_ok-sealed.sealed numbers c.in_ok-reply.reply c.in_ok-sealed.ensures c.in-Ok.ensures c.in_ok-reply.ensures.asked in
    let strayed = by_names c.in_ok-reply.ensures.limits c.in_ok-reply.ensures.seat (λ (k : Limits) (i : ℕ). Strayed k i moment (publishes index 0 numbers) mid new)
    (subst (λ (n : List ℕ). Strayed (s.limits c.ask.new.self) (s.seat c.ask.new.self) moment (publishes index 0 n) mid new) c.as_slice.ensures c.in_err-publish_all-in-Ok.ensures.talk) in
    let p = err_from_is_err_and c.from_residual-in_err-publish_all-in-Ok.result c.from_residual-in_err-publish_all-in-Ok.ensures.1 in
    rw p.1 (strayed_later limits seat moment index numbers old mid new was strayed)

pub returns-in-None-clause-talk : goal.returns-in-None-clause-talk
returns-in-None-clause-talk g c =
    let s = g.V.Service in
    let limits = s.limits c.args.service.now in
    let seat = s.seat c.args.service.now in
    let old = s.front c.args.service.now in
    let mid = s.front c.ask.new.self in
    let new = s.front c.publish_all.new.service in
    let index = c.args.index.now in
    let numbers = c.in-Ok.numbers in
    let moment = c.args.moment in
    was_refreshed limits seat moment index numbers old mid new
    (seal_as limits seat moment old mid index c.in_ok-sealed.sealed numbers c.in_ok-reply.reply c.in_ok-sealed.ensures c.in-Ok.ensures c.in_ok-reply.ensures.asked)
    (published_as c.in_ok-reply.ensures.limits c.in_ok-reply.ensures.seat moment index numbers c.as_slice.result.now mid new None c.in_ok-publish_all-in-Ok.field-0 c.as_slice.ensures c.in-None.is c.in_ok-publish_all-in-Ok.ensures.talk)

pub returns-in-Some-clause-talk : goal.returns-in-Some-clause-talk
returns-in-Some-clause-talk g c =
    let s = g.V.Service in
    let limits = s.limits c.args.service.now in
    let seat = s.seat c.args.service.now in
    let old = s.front c.args.service.now in
    let mid = s.front c.ask.new.self in
    let new = s.front c.publish_all.new.service in
    let index = c.args.index.now in
    let numbers = c.in-Ok.numbers in
    let moment = c.args.moment in
    ended_later limits seat moment index numbers old mid new c.in-Some.said
    (seal_as limits seat moment old mid index c.in_ok-sealed.sealed numbers c.in_ok-reply.reply c.in_ok-sealed.ensures c.in-Ok.ensures c.in_ok-reply.ensures.asked)
    (published_as c.in_ok-reply.ensures.limits c.in_ok-reply.ensures.seat moment index numbers c.as_slice.result.now mid new (Some c.in-Some.said) c.in_ok-publish_all-in-Ok.field-0 c.as_slice.ensures c.in-Some.is c.in_ok-publish_all-in-Ok.ensures.talk)

pub returns-in-Err-clause-talk : goal.returns-in-Err-clause-talk
returns-in-Err-clause-talk g c =
    let s = g.V.Service in
    let limits = s.limits c.args.service.now in
    let seat = s.seat c.args.service.now in
    let old = s.front c.args.service.now in
    let mid = s.front c.ask.new.self in
    let index = c.args.index.now in
    let moment = c.args.moment in
    let same = c.in-Err.ensures.0 in
    ended_first limits seat moment index old mid c.in-Err.said
    (subst (λ (said : Reply). Asked limits seat 4 old mid (asked seat moment (Seal index)) said) (sym same)
    (subst (λ (i : List ℕ). Asked limits seat 4 old mid (asked seat moment (Seal i)) c.in_ok-reply.reply) c.in_ok-sealed.ensures c.in_ok-reply.ensures.asked))
    (rw same (c.in-Err.ensures.1 index))
