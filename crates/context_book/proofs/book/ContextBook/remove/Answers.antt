use Rattle.std.proofs.Common.{List, subst, ◌∙◌}
use Rattle.context_book.specs.declared.context.Context.{Context}
use Rattle.context_book.specs.Calls.{without}
use Rattle.context_book.specs.Places.{HasNumber}
use Rattle.context_book.proofs.Edits.{edited, removed}
use Rattle.context_book.proofs.book.ContextBook.remove.Goals as goal

pub returns-clause-ok : goal.returns-clause-ok
returns-clause-ok c =
    let contexts = c.self.inside.contexts.items in
    let has = subst (λ (xs : List Context). HasNumber xs c.args.number c.in-Some.at) c.deref.ensures.value c.in-Some.ensures.0 in
    edited (without c.args.number) c.self.inside.pits contexts _ c.args.self.now c.self.view_is
    (c.remove.ensures.items ∙ removed contexts c.args.number c.in-Some.at c.self.invariant has)
