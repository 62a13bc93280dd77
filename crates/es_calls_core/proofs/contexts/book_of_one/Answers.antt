-- The one owner has lent nothing.
use Rattle.std.proofs.Common.{◌≡◌, ℕ, ◌<◌, true, false, cond, eqb, List, [], ◌∷◌, Some, None, IfSome, ap, subst, sym, ◌∙◌, arith}
use Rattle.std.specs.List.{find}
use Rattle.context_book.specs.declared.context.Context.{Context}
use Rattle.context_book.specs.Books.{Book, CanLend, lives}
use Rattle.context_book.specs.Calls.{with_one}
use Rattle.es_calls_core.proofs.contexts.book_of_one.Goals as goal

one_lends : (context : Context) → context.owner.lent ≡ 0 → (number now : ℕ) → CanLend number now (context ∷ [])
one_lends context none number now =
    let P : Context → Type 0 = λ it. it.owner.lent < 9007199254740992 in
    elim (lives now context) as (λ b. IfSome (find (λ (it : Context). eqb it.number number) (cond b (context ∷ []) [])) P) [
      | true ↦ elim (eqb context.number number) as (λ b. IfSome (cond b (Some context) None) P) [ true ↦ omega (arith, none) | false ↦ tt ]
      | false ↦ tt
    ]

pub returns-in-Ok-clause-lends : goal.returns-in-Ok-clause-lends
returns-in-Ok-clause-lends c number now =
    let one : Context = record { number = 3; owner = c.in_ok-owner.field-0; expiry = 10 } in
    let made : c.open_context.new.self.contexts ≡ one ∷ [] =
    ap (λ (it : Book). it.contexts) c.in-Ok.ensures.added ∙ ap (λ (it : Book). with_one one it.contexts) c.make-book.ensures in
    subst (CanLend number now) (sym made) (one_lends one c.in_ok-owner.ensures number now)
