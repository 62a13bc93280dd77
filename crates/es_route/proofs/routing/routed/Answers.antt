-- The resource that the path names, and the moment.
use Rattle.std.proofs.Common.{sym, ap, ◌∙◌, Option}
use Rattle.es_route.specs.declared.resource.Resource.{Resource}
use Rattle.es_route.specs.Moments.{is_unreadable}
use Rattle.es_route.specs.Resources.{resource_of}
use Rattle.es_route.specs.Route.{asked_at, asked_of, asked_when}
use Rattle.es_route.proofs.Asks.{answers_readable, answers_same, answers_unreadable}
use Rattle.es_route.proofs.routing.routed.Goals as goal

pub returns-then-unreadable-clause-answer : goal.returns-then-unreadable-clause-answer
unfolding asked_of
returns-then-unreadable-clause-answer c =
    let request = c.args.request in
    let unreadable = is_unreadable request in
    let resource = c.resource_of-resource.result in
    answers_same (asked_when unreadable (asked_at request resource)) (asked_when unreadable (asked_at request (resource_of request.path))) c.moment_first.result
    (ap (λ (p : Option Resource). asked_when unreadable (asked_at request p)) (sym (c.resource_of-resource.ensures ∙ ap resource_of c.as_str.ensures)))
    (answers_unreadable c.asked_at-asked.result c.moment_first.result (asked_at request resource) unreadable
    (sym c.is_unreadable-unreadable.ensures ∙ c.if-unreadable.true) c.moment_first.ensures.answer c.asked_at-asked.ensures.answer)

pub returns-else-unreadable-clause-answer : goal.returns-else-unreadable-clause-answer
unfolding asked_of
returns-else-unreadable-clause-answer c =
    let request = c.args.request in
    let unreadable = is_unreadable request in
    let resource = c.resource_of-resource.result in
    answers_same (asked_when unreadable (asked_at request resource)) (asked_when unreadable (asked_at request (resource_of request.path))) c.asked_at-asked.result
    (ap (λ (p : Option Resource). asked_when unreadable (asked_at request p)) (sym (c.resource_of-resource.ensures ∙ ap resource_of c.as_str.ensures)))
    (answers_readable c.asked_at-asked.result (asked_at request resource) unreadable (sym c.is_unreadable-unreadable.ensures ∙ c.if-unreadable.false) c.asked_at-asked.ensures.answer)
