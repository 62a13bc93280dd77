use Rattle.std.proofs.Common.{◌<◌, sym, subst}
use Rattle.std.proofs.lemmas.List.Kept.{AllPairs-filter}
use Rattle.context_book.specs.declared.context.Context.{Context}
use Rattle.context_book.specs.Books.{Rises, is_kept}
use Rattle.context_book.proofs.book.ContextBook.close.Goals as goal

pub invariant_of-self-2 : goal.invariant_of-self-2
invariant_of-self-2 c =
    subst Rises (sym c.in_ok-owners.ensures.kept)
    (AllPairs-filter (λ (a b : Context). a.number < b.number) (is_kept c.args.now c.args.which.now) c.self.inside.contexts.items c.self.invariant)
