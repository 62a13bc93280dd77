use Rattle.std.proofs.Common.{◌<◌, All, ap, refl, subst, sym, ◌∙◌}
use Rattle.es_types.specs.declared.limits.TheConstants.{MOST_ENTRIES}
use Rattle.context_book.specs.declared.context.Context.{Context}
use Rattle.context_book.specs.Books.{Book}
use Rattle.es_core.specs.Contexts.{AllLent}
use Rattle.es_core.proofs.Lending.{left_lent, left_numbers}
use Rattle.es_core.proofs.StepLemmas.{quiet_rests}
use Rattle.es_core.proofs.node.Core.quiet.Goals as goal

pub invariant_of-self-2 : goal.invariant_of-self-2
invariant_of-self-2 c =
    let core = c.args.self.now in
    record {
      issued = subst (λ (book : Book). All (λ (context : Context). context.number < core.next) book.contexts) (sym c.in_ok-do_chore.ensures.left)
          (left_numbers core.next c.args.chore c.later-later.result core.book.contexts core.issued);
      limited = ap (λ (book : Book). book.limit) c.in_ok-do_chore.ensures.left ∙ core.limited;
      few = subst (λ (book : Book). AllLent MOST_ENTRIES book.contexts) (sym c.in_ok-do_chore.ensures.left)
          (left_lent MOST_ENTRIES c.args.chore c.later-later.result core.book.contexts core.few);
    }

pub returns-clause-rests : goal.returns-clause-rests
returns-clause-rests c =
    let core = c.args.self.now in
    let facts = c.sound_states.ensures in
    quiet_rests (record { limits_are = facts.limits; counted = facts.counted }) core _ c.args.chore c.args.moment c.later-later.result c.later-later.ensures
    (record { limits_are = refl; next = refl; indexes = refl }) refl c.in_ok-do_chore.ensures.left
