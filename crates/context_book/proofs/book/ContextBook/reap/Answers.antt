use Rattle.std.proofs.Common.{◌<◌, not, sym, subst}
use Rattle.std.proofs.lemmas.List.Kept.{AllPairs-filter}
use Rattle.context_book.specs.declared.context.Context.{Context}
use Rattle.context_book.specs.Books.{Rises, has_ended}
use Rattle.context_book.proofs.book.ContextBook.reap.Goals as goal

pub invariant_of-self-2 : goal.invariant_of-self-2
invariant_of-self-2 c =
    subst Rises (sym c.in_ok-owners.ensures.kept)
    (AllPairs-filter (λ (a b : Context). a.number < b.number)
    (λ context. not (has_ended c.args.now context)) c.self.inside.contexts.items c.self.invariant)
