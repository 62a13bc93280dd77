use Rattle.std.proofs.Common.{List, subst, sym, ◌∙◌}
use Rattle.context_book.specs.declared.context.Context.{Context}
use Rattle.context_book.specs.Books.{Rises}
use Rattle.context_book.specs.Places.{IsBorder}
use Rattle.context_book.proofs.Edits.{inserted, rises_inserted, with_last}
use Rattle.context_book.proofs.book.put_in.Goals as goal

-- the place that was looked up is one of the list
border : (c : goal.In-Ok) → IsBorder c.args.contexts.now.items c.args.context.number c.place_for-at.result
border c = subst (λ (xs : List Context). IsBorder xs c.args.context.number c.place_for-at.result) c.deref.ensures.value c.place_for-at.ensures

pub returns-in-Ok-clause-rise : goal.returns-in-Ok-clause-rise
returns-in-Ok-clause-rise c =
    subst Rises (sym c.in-Ok.ensures.items)
    (rises_inserted c.args.contexts.now.items c.args.context c.place_for-at.result c.requires.rise c.requires.fresh (border c))

pub returns-in-Ok-clause-added : goal.returns-in-Ok-clause-added
returns-in-Ok-clause-added c =
    c.in-Ok.ensures.items ∙ inserted c.args.contexts.now.items c.args.context c.place_for-at.result c.requires.fresh (border c)

pub returns-in-Ok-clause-last : goal.returns-in-Ok-clause-last
returns-in-Ok-clause-last c lower =
    c.in-Ok.ensures.items ∙ inserted c.args.contexts.now.items c.args.context c.place_for-at.result c.requires.fresh (border c)
    ∙ with_last c.args.contexts.now.items c.args.context lower

pub returns-in-Err-clause-rise : goal.returns-in-Err-clause-rise
returns-in-Err-clause-rise c = subst Rises (sym c.in-Err.ensures.items) c.requires.rise
