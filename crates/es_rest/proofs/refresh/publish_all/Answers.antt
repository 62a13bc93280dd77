-- One shard after the other.
use Rattle.std.proofs.Common.{◌≡◌, ◌+◌, ◌∙◌, ap, sym, subst, inr, slice_index, List, [], ℕ, arith}
use Rattle.std.proofs.lemmas.Result.{err_from_is_err_and}
use Rattle.list_machine.specs.declared.event.Event.{Event}
use Rattle.list_machine.specs.declared.event.Event.TheVariants.{Publish}
use Rattle.list_machine.specs.declared.event.Limits.{Limits}
use Rattle.list_machine.specs.Serving.{Asked, HasSealed, MayHaveAsked, asked}
use Rattle.es_rest.specs.declared.refusal.Named.TheVariants as named
use Rattle.es_rest.proofs.Refreshes.{told_all, told_cut, told_more, told_refused, told_tried}
use Rattle.es_rest.proofs.Talks.{asked_as, at_place, may_have_as, sealed_later}
use Rattle.es_rest.proofs.refresh.publish_all.Goals as goal

-- the event of a shard, by the names that the loop has for it
same_event : {other index : List ℕ} {shard count : ℕ} (upto : ℕ) → other ≡ index → shard ≡ count → Publish other shard upto ≡ Publish index count upto
same_event {other} {index} {shard} {count} upto e f = ap (λ (i : List ℕ). Publish i shard upto) e ∙ ap (λ (n : ℕ). Publish index n upto) f

pub returns-in_err-said-clause-talk : goal.returns-in_err-said-clause-talk
returns-in_err-said-clause-talk g c =
    let s = g.V.Service in
    let limits = s.limits c.args.service.now in
    let seat = s.seat c.args.service.now in
    let index = c.args.index.now in
    let numbers = c.args.numbers.now in
    let count = c.loop-upto.upto-index in
    let upto = slice_index numbers count in
    let now = s.front c.loop-upto.service in
    let new = s.front c.ask.new.self in
    let was = subst (λ (e : Event). MayHaveAsked seat 4 now new (asked seat c.args.moment e)) (same_event upto c.in_ok-copy.ensures c.loop-upto.invariant.shard)
    (may_have_as c.loop-upto.invariant.seat c.args.moment (Publish c.in_ok-copy.field-0 c.loop-upto.shard upto) now new c.in_err-said.ensures.asked) in
    let p = err_from_is_err_and c.from_residual-in_err-said.result c.from_residual-in_err-said.ensures.1 in
    rw p.1 (told_tried limits seat c.args.moment index numbers (s.front c.args.service.now) now new count upto c.loop-upto.invariant.told (at_place numbers count c.loop-upto-test.true) was)

pub returns-then-is_refused-clause-talk : goal.returns-then-is_refused-clause-talk
returns-then-is_refused-clause-talk g c =
    let s = g.V.Service in
    let limits = s.limits c.args.service.now in
    let seat = s.seat c.args.service.now in
    let index = c.args.index.now in
    let numbers = c.args.numbers.now in
    let count = c.loop-upto.upto-index in
    let upto = slice_index numbers count in
    let now = s.front c.loop-upto.service in
    let new = s.front c.ask.new.self in
    let was = subst (λ (e : Event). Asked limits seat 4 now new (asked seat c.args.moment e) c.in_ok-said.said) (same_event upto c.in_ok-copy.ensures c.loop-upto.invariant.shard)
    (asked_as c.loop-upto.invariant.limits c.loop-upto.invariant.seat c.args.moment (Publish c.in_ok-copy.field-0 c.loop-upto.shard upto) now new c.in_ok-said.said c.in_ok-said.ensures.asked) in
    told_refused limits seat c.args.moment index numbers (s.front c.args.service.now) now new count upto c.in_ok-said.said c.loop-upto.invariant.told (at_place numbers count c.loop-upto-test.true) was
    (sym (c.is_refused.ensures (named.Context [])) ∙ c.if-is_refused.true)

pub loop-upto-preserved : goal.loop-upto-preserved
loop-upto-preserved g c =
    let s = g.V.Service in
    let limits = s.limits c.args.service.now in
    let seat = s.seat c.args.service.now in
    let index = c.args.index.now in
    let numbers = c.args.numbers.now in
    let count = c.loop-upto.upto-index in
    let upto = slice_index numbers count in
    let now = s.front c.loop-upto.service in
    let new = s.front c.ask.new.self in
    let was = subst (λ (e : Event). Asked limits seat 4 now new (asked seat c.args.moment e) c.in_ok-said.said) (same_event upto c.in_ok-copy.ensures c.loop-upto.invariant.shard)
    (asked_as c.loop-upto.invariant.limits c.loop-upto.invariant.seat c.args.moment (Publish c.in_ok-copy.field-0 c.loop-upto.shard upto) now new c.in_ok-said.said c.in_ok-said.ensures.asked) in
    record {
      told = told_more limits seat c.args.moment index numbers (s.front c.args.service.now) now new count upto c.in_ok-said.said c.loop-upto.invariant.told (at_place numbers count c.loop-upto-test.true) was
          (sym (c.is_refused.ensures (named.Context [])) ∙ c.if-is_refused.false);
      shard = ap (λ (n : ℕ). n + 1) c.loop-upto.invariant.shard;
      were_sealed = sealed_later limits seat now new (asked seat c.args.moment (Publish index count upto)) c.in_ok-said.said index numbers was c.loop-upto.invariant.were_sealed;
      seat = c.in_ok-said.ensures.seat ∙ c.loop-upto.invariant.seat;
      limits = c.in_ok-said.ensures.limits ∙ c.loop-upto.invariant.limits;
    }

pub returns-clause-talk : goal.returns-clause-talk
returns-clause-talk g c =
    let s = g.V.Service in
    told_all (s.limits c.args.service.now) (s.seat c.args.service.now) c.args.moment c.args.index.now c.args.numbers.now (s.front c.args.service.now) (s.front c.loop-upto.service) c.loop-upto.upto-index c.loop-upto.invariant.told
    (omega (arith, c.loop-upto-test.false))

pub returns-in_err-copy-clause-talk : goal.returns-in_err-copy-clause-talk
returns-in_err-copy-clause-talk g c =
    let s = g.V.Service in
    let p = err_from_is_err_and c.from_residual.result c.from_residual.ensures.1 in
    rw p.1 (told_cut (s.limits c.args.service.now) (s.seat c.args.service.now) c.args.moment c.args.index.now c.args.numbers.now (s.front c.args.service.now) (s.front c.loop-upto.service) c.loop-upto.upto-index c.loop-upto.invariant.told)

pub ask-requires : goal.ask-requires
ask-requires g c =
    let s = g.V.Service in
    let numbers = c.args.numbers.now in
    let count = c.loop-upto.upto-index in
    let upto = slice_index numbers count in
    let now = s.front c.loop-upto.service in
    let limits = s.limits c.args.service.now in
    inr (subst (λ (k : Limits). HasSealed k now c.in_ok-copy.field-0 c.loop-upto.shard upto) (sym c.loop-upto.invariant.limits)
    (subst (λ (i : List ℕ). HasSealed limits now i c.loop-upto.shard upto) (sym c.in_ok-copy.ensures)
    (subst (λ (n : ℕ). HasSealed limits now c.args.index.now n upto) (sym c.loop-upto.invariant.shard)
    (c.loop-upto.invariant.were_sealed count upto (at_place numbers count c.loop-upto-test.true)))))
