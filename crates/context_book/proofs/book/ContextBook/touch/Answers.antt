use Rattle.std.proofs.Common.{List, map, set, ap, subst, ◌∙◌}
use Rattle.context_book.specs.declared.context.Context.{Context}
use Rattle.context_book.specs.Calls.{touched}
use Rattle.context_book.specs.Places.{HasNumber}
use Rattle.context_book.proofs.Edits.{edited, kept_there}
use Rattle.context_book.proofs.book.ContextBook.touch.Goals as goal

pub returns-clause-ok : goal.returns-clause-ok
returns-clause-ok c =
    let contexts = c.self.inside.contexts.items in
    let context = c.index_mut-context.result.now in
    let has = subst (λ (xs : List Context). HasNumber xs c.args.number c.in-Some.at) c.deref.ensures.value c.in-Some.ensures.0 in
    edited (map (touched c.args.number c.args.expiry)) c.self.inside.pits contexts _ c.args.self.now c.self.view_is
    (ap (λ expiry. set contexts c.in-Some.at (record context { expiry = expiry })) c.max-context.ensures
    ∙ kept_there contexts c.args.number c.in-Some.at c.args.expiry c.self.invariant has context c.index_mut-context.ensures.value)
