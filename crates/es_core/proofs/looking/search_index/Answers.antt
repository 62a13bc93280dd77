use Rattle.std.proofs.Common.{◌≡◌, Some, ap, refl, subst, sym, ◌∙◌}
use Rattle.std.specs.Arc.{arc_value}
use Rattle.std.specs.Option.{option_copied, option_map}
use Rattle.std.proofs.lemmas.Option.{same_Some}
use Rattle.list_machine.specs.State.{Index, index_of, view_of}
use Rattle.list_machine.specs.Step.{search_index}
use Rattle.list_machine.specs.Views.{View}
use Rattle.es_core.specs.Plans.{IsFirstPage, plan_reply}
use Rattle.es_core.proofs.IndexLemmas.{mapped_none, mapped_some, search_moves}
use Rattle.es_core.proofs.Planned.{is_answered_by, is_refused, page_of_view, page_planned, refused_not}
use Rattle.es_core.proofs.looking.search_index.Goals as goal

pub returns-in-Some-refused-clause-planned : goal.returns-in-Some-refused-clause-planned
returns-in-Some-refused-clause-planned c =
    refused_not c.in-Some.mapping.now c.args.request.now c.refused.result c.in-Some-refused.refused c.refused.ensures c.in-Some-refused.is

pub returns-clause-ok : goal.returns-clause-ok
returns-clause-ok c =
    let catalog = c.args.catalog.now in
    let request = c.args.request.now in
    let view = arc_value c.in-Some-2.view in
    let mapping = c.in-Some.mapping.now in
    let finds : Some view ≡ option_map view_of (index_of c.args.name.now catalog) = sym (ap (option_map arc_value) c.in-Some-2.is) ∙ c.in_ok-view.ensures.view in
    let found = mapped_some (λ (index : Index). index.mapping) (index_of c.args.name.now catalog) mapping (sym (ap option_copied c.in-Some.is) ∙ c.mapping.ensures) in
    let shown = mapped_some view_of (index_of c.args.name.now catalog) view finds in
    let same : mapping ≡ view.mapping =
    found.2 ∙ ap (λ (index : Index). index.mapping) (same_Some found.0 shown.0 (sym found.1 ∙ shown.1)) ∙ ap (λ (it : View). it.mapping) (sym shown.2) in
    search_moves c.args.name.now request catalog _ view (plan_reply c.in_ok-page_of.field-0) finds c.view.ensures.same
    (is_answered_by view mapping request c.refused.result c.in_ok-page_of.field-0 same c.refused.ensures c.in_default-refused.is c.in_ok-page_of.ensures)

pub returns-clause-planned : goal.returns-clause-planned
returns-clause-planned c = page_planned _ c.args.request.now c.in_ok-page_of.field-0 c.in_ok-page_of.ensures

pub returns-clause-view : goal.returns-clause-view
returns-clause-view c =
    let view = arc_value c.in-Some-2.view in
    let finds : Some view ≡ option_map view_of (index_of c.args.name.now c.args.catalog.now) = sym (ap (option_map arc_value) c.in-Some-2.is) ∙ c.in_ok-view.ensures.view in
    page_of_view view c.args.request.now c.in_ok-page_of.field-0 (option_map view_of (index_of c.args.name.now c.args.catalog.now)) (sym finds) c.in_ok-page_of.ensures
