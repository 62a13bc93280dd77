-- The actions are those of the body.
use Rattle.std.proofs.Common.{◌≡◌, sym, ap, subst, ◌∙◌, ℕ, List, Option, Ok}
use Rattle.std.specs.Prelude.{All}
use Rattle.doc_json.specs.Bulks.{LiesIn}
use Rattle.es_route.specs.Items.{actions_of, checked}
use Rattle.es_route.proofs.Walks.{taken}
use Rattle.es_route.proofs.documents.bulk_asked.Goals as goal

pub returns-clause-sound : goal.returns-clause-sound
returns-clause-sound c =
    let bytes = c.as_slice.result.now in
    let items = c.in_ok-items.items in
    let are : checked (actions_of c.args.index c.args.request.body) ≡ Ok items
    = ap (λ (b : List ℕ). checked (actions_of c.args.index b)) (sym c.as_slice.ensures)
    ∙ (ap (λ (o : Option (List ℕ)). checked (actions_of o bytes)) (sym c.as_ref.ensures.value) ∙ c.in_ok-items.ensures.answer) in
    taken c.args.index c.args.request.body items are (subst (λ (b : List ℕ). All (LiesIn b) items) c.as_slice.ensures c.in_ok-items.ensures.within)
