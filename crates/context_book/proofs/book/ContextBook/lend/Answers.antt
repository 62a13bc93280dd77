use Rattle.std.proofs.Common.{List, map, set, ap, subst, ◌∙◌}
use Rattle.context_book.specs.declared.context.Context.{Context}
use Rattle.context_book.specs.Calls.{lent_by}
use Rattle.context_book.specs.Places.{HasNumber}
use Rattle.context_book.proofs.Edits.{edited, lent_there}
use Rattle.context_book.proofs.book.ContextBook.lend.Goals as goal

pub returns-clause-lent : goal.returns-clause-lent
returns-clause-lent c =
    let contexts = c.self.inside.contexts.items in
    let context = c.index_mut-context.result.now in
    let has = subst (λ (xs : List Context). HasNumber xs c.args.number c.in-Some.at) c.deref.ensures.value c.in-Some.ensures.0 in
    edited (map (lent_by c.args.number)) c.self.inside.pits contexts _ c.args.self.now c.self.view_is
    (ap (λ owner. set contexts c.in-Some.at (record context { owner = owner })) c.in_ok-lend.ensures.owner
    ∙ lent_there contexts c.args.number c.in-Some.at c.self.invariant has context c.index_mut-context.ensures.value)
