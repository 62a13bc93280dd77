use Rattle.std.proofs.Common.{◌≡◌, Option, true, false, ap, arith, subst, sym, ◌∙◌, MatchOption}
use Rattle.std.specs.Option.{is_none}
use Rattle.context_book.specs.declared.context.Context.{Context}
use Rattle.list_machine.specs.Views.{View}
use Rattle.es_core.specs.Contexts.{contexts_seen, found, kept_on_answer}
use Rattle.es_core.specs.declared.turned.Plan.{Plan}
use Rattle.es_core.specs.declared.turned.Turned.TheVariants.{Later}
use Rattle.es_core.specs.Plans.{Leaves, kept_on}
use Rattle.es_core.proofs.Lending.{one_can}
use Rattle.es_core.proofs.Planned.{is_answered_by, is_refused, page_planned, planned, refused_not, unfit_by}
use Rattle.es_core.proofs.Searches.{kept_after, kept_not, missed, none_seen, one_seen, still_live}
use Rattle.es_core.proofs.contexts.search_pit.Goals as goal

pub returns-in-Err-clause-reply : goal.returns-in-Err-clause-reply
returns-in-Err-clause-reply c can = sym (ap (found c.args.request.now) (none_seen c.args.number c.args.moment c.args.book.now.contexts c.in-Err.ensures.found))

pub returns-in-Err-clause-kept : goal.returns-in-Err-clause-kept
returns-in-Err-clause-kept c can =
    missed c.args.moment c.args.number c.args.keep c.args.request.now _ (contexts_seen c.args.book.now.contexts)
    (none_seen c.args.number c.args.moment c.args.book.now.contexts c.in-Err.ensures.found)

pub returns-in-Some-clause-reply : goal.returns-in-Some-clause-reply
returns-in-Some-clause-reply c can =
    let one = c.in-Ok.context.now in
    let same = c.mapping.ensures ∙ ap (λ (it : View). it.mapping) c.body.ensures in
    is_refused one.owner.body c.mapping.result.now c.args.request.now c.refused.result c.in-Some.refused same c.refused.ensures c.in-Some.is
    ∙ sym (ap (found c.args.request.now) (one_seen c.args.number c.args.moment c.args.book.now.contexts one c.in-Ok.ensures.found))

pub returns-in-Some-clause-kept : goal.returns-in-Some-clause-kept
returns-in-Some-clause-kept c can =
    let one = c.in-Ok.context.now in
    let contexts = c.args.book.now.contexts in
    let same = c.mapping.ensures ∙ ap (λ (it : View). it.mapping) c.body.ensures in
    kept_after c.args.moment c.args.number c.args.keep c.args.request.now one false _ (contexts_seen contexts) (contexts_seen contexts)
    (one_seen c.args.number c.args.moment contexts one c.in-Ok.ensures.found)
    (ap is_none (unfit_by one.owner.body c.mapping.result.now c.args.request.now c.refused.result same c.refused.ensures ∙ c.in-Some.is))
    (kept_not c.args.moment c.args.number c.args.keep (contexts_seen contexts))

-- none that can lend has lent so many

pub returns-then-lent-ge-MOST_LENT-clause-reply : goal.returns-then-lent-ge-MOST_LENT-clause-reply
returns-then-lent-ge-MOST_LENT-clause-reply c can =
    let less = one_can c.args.number c.args.moment c.args.book.now.contexts c.in-Ok.context.now can c.in-Ok.ensures.found in
    absurd (omega (arith, less, c.lent.ensures, c.if-lent-ge-MOST_LENT.true))

pub returns-then-lent-ge-MOST_LENT-clause-kept : goal.returns-then-lent-ge-MOST_LENT-clause-kept
returns-then-lent-ge-MOST_LENT-clause-kept c can =
    let less = one_can c.args.number c.args.moment c.args.book.now.contexts c.in-Ok.context.now can c.in-Ok.ensures.found in
    absurd (omega (arith, less, c.lent.ensures, c.if-lent-ge-MOST_LENT.true))

pub keep_longer-requires : goal.keep_longer-requires
keep_longer-requires c =
    still_live c.args.number c.args.moment c.args.book.now.contexts c.lend.new.book.contexts c.in-Ok.context.now c.lend.ensures.same c.in-Ok.ensures.found

pub returns-clause-reply : goal.returns-clause-reply
returns-clause-reply c can =
    let one = c.in-Ok.context.now in
    let same = c.mapping.ensures ∙ ap (λ (it : View). it.mapping) c.body.ensures in
    let held : (c.in_ok-pass.pass.reader ≡ one.owner.reader) × (c.in_ok-pass.pass.body ≡ one.owner.body) =
    subst (λ (o : Option Context). MatchOption o ⊥ (λ (context : Context). (c.in_ok-pass.pass.reader ≡ context.owner.reader) × (c.in_ok-pass.pass.body ≡ context.owner.body))) c.in-Ok.ensures.found c.in_ok-pass.ensures.pass in
    is_answered_by one.owner.body c.mapping.result.now c.args.request.now c.refused.result c.page.result same c.refused.ensures c.in_default.is
    (planned one.owner.body c.args.request.now c.in_ok-request.request c.in_ok-pass.pass c.page.result c.page.ensures held.1 c.in_ok-request.ensures)
    ∙ sym (ap (found c.args.request.now) (one_seen c.args.number c.args.moment c.args.book.now.contexts one c.in-Ok.ensures.found))

pub returns-clause-kept : goal.returns-clause-kept
returns-clause-kept c can =
    let one = c.in-Ok.context.now in
    let contexts = c.args.book.now.contexts in
    let same = c.mapping.ensures ∙ ap (λ (it : View). it.mapping) c.body.ensures in
    kept_after c.args.moment c.args.number c.args.keep c.args.request.now one true _ (contexts_seen contexts) _
    (one_seen c.args.number c.args.moment contexts one c.in-Ok.ensures.found)
    (ap is_none (unfit_by one.owner.body c.mapping.result.now c.args.request.now c.refused.result same c.refused.ensures ∙ c.in_default.is))
    (c.keep_longer.ensures.kept ∙ ap (kept_on_answer c.args.moment c.args.number c.args.keep true) c.lend.ensures.same)

pub returns-in-Some-clause-planned : goal.returns-in-Some-clause-planned
returns-in-Some-clause-planned c =
    refused_not c.mapping.result.now c.args.request.now c.refused.result c.in-Some.refused c.refused.ensures c.in-Some.is

pub returns-clause-planned : goal.returns-clause-planned
returns-clause-planned c =
    let one = c.in-Ok.context.now in
    let held : (c.in_ok-pass.pass.reader ≡ one.owner.reader) × (c.in_ok-pass.pass.body ≡ one.owner.body) =
    subst (λ (o : Option Context). MatchOption o ⊥ (λ (context : Context). (c.in_ok-pass.pass.reader ≡ context.owner.reader) × (c.in_ok-pass.pass.body ≡ context.owner.body))) c.in-Ok.ensures.found c.in_ok-pass.ensures.pass in
    page_planned one.owner.body c.args.request.now c.page.result
    (planned one.owner.body c.args.request.now c.in_ok-request.request c.in_ok-pass.pass c.page.result c.page.ensures held.1 c.in_ok-request.ensures)

pub returns-clause-leaves : goal.returns-clause-leaves
returns-clause-leaves c =
    let number = c.args.number in
    let contexts = c.args.book.now.contexts in
    subst (λ (plan : Plan). Leaves number c.args.moment c.args.keep contexts c.keep_longer.new.book.contexts (Later plan)) (sym c.page.ensures) (
      c.in_ok-pass.ensures.pass,
      c.keep_longer.ensures.on ∙ ap (kept_on number c.args.moment c.args.keep) c.in_ok-pass.ensures.lent,
    )
