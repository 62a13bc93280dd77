use Rattle.std.proofs.Common.{ap, arith, refl, ◌∙◌}
use Rattle.std.proofs.lemmas.Grind.{common_steps}
use Rattle.es_types.specs.declared.limits.TheConstants.{MOST_ENTRIES}
use Rattle.list_machine.specs.declared.event.Event.TheVariants.{Search}
use Rattle.list_machine.specs.declared.event.Target.{Target}
use Rattle.context_book.specs.Books.{Book}
use Rattle.es_core.specs.Contexts.{contexts_seen}
use Rattle.es_core.specs.Indexes.{IsOfIndexes}
use Rattle.es_core.proofs.Planned.{indexes_out, indexes_want, looked_out, may_want, searched_out}
use Rattle.es_core.proofs.ContextLemmas.{closed_seen}
use Rattle.es_core.proofs.Searches.{seen_rises}
use Rattle.es_core.proofs.StepLemmas.{close_done, looked_done, moved_done, search_done}
use Rattle.es_core.proofs.node.Core.happen.Goals as goal

pub returns-in_ok-step-in_default-clause-steps : goal.returns-in_ok-step-in_default-clause-steps
returns-in_ok-step-in_default-clause-steps c =
    moved_done c.args.self.now _ c.args.moment c.args.event.now c.args.event.now c.in_ok-step-in_default.field-0 refl (record { limits_are = refl; next = refl; book = refl }) c.in_ok-step-in_default.ensures.ok

pub returns-in-Index-clause-steps : goal.returns-in-Index-clause-steps
returns-in-Index-clause-steps c =
    let is = c.in-Search.is ∙ ap (λ (it : Target). Search it c.in-Search.request) c.in-Index.is in
    looked_done c.args.self.now _ c.args.moment c.args.event.now _ is (record { limits_are = refl; next = refl; book = refl }) c.search_index.result c.search_index.ensures.ok

pub returns-in-Pit-clause-steps : goal.returns-in-Pit-clause-steps
returns-in-Pit-clause-steps c =
    let is = c.in-Search.is ∙ ap (λ (it : Target). Search it c.in-Search.request) c.in-Pit.is in
    search_done c.args.self.now _ c.args.moment c.args.event.now c.in-Pit.number c.in-Pit.keep c.in-Search.request is (record { limits_are = refl; next = refl; indexes = refl })
    (seen_rises c.args.self.now.book.contexts c.search_pit.ensures.rise) c.search_pit.result c.search_pit.ensures.reply c.search_pit.ensures.kept

pub invariant_of-self-in-Close : goal.invariant_of-self-in-Close
invariant_of-self-in-Close c =
    let core = c.args.self.now in
    record {
      issued = c.close.ensures.numbers core.next core.issued;
      limited = c.close.ensures.limit ∙ core.limited;
      few = c.close.ensures.lent MOST_ENTRIES core.few;
    }

pub returns-in_ok-freed-in-Close-clause-steps : goal.returns-in_ok-freed-in-Close-clause-steps
returns-in_ok-freed-in-Close-clause-steps c =
    let core = c.args.self.now in
    close_done core _ c.args.moment c.args.event.now c.in-Close.which c.in_ok-freed-in-Close.freed c.in-Close.is (record { limits_are = refl; next = refl; indexes = refl })
    c.in_ok-freed-in-Close.ensures.freed
    (ap (λ (book : Book). contexts_seen book.contexts) c.in_ok-freed-in-Close.ensures.kept ∙ closed_seen c.args.moment c.in-Close.which core.book.contexts)

pub returns-in_ok-step-in_default-clause-hands_out : goal.returns-in_ok-step-in_default-clause-hands_out
returns-in_ok-step-in_default-clause-hands_out c =
    let alone : IsOfIndexes c.args.event.now = grind (arith, common_steps) in
    indexes_out c.args.event.now c.args.moment c.args.self.now.catalog c.args.self.now.book.contexts c.in_ok-step-in_default.field-0 alone

pub returns-in_ok-open_pit-in-OpenPit-clause-hands_out : goal.returns-in_ok-open_pit-in-OpenPit-clause-hands_out
returns-in_ok-open_pit-in-OpenPit-clause-hands_out c = rw c.in-OpenPit.is c.in_ok-open_pit-in-OpenPit.ensures.added

pub returns-in_ok-freed-in-Close-clause-hands_out : goal.returns-in_ok-freed-in-Close-clause-hands_out
returns-in_ok-freed-in-Close-clause-hands_out c = rw c.in-Close.is (tt, ap (λ (book : Book). book.contexts) c.in_ok-freed-in-Close.ensures.kept)

pub returns-in-Index-clause-hands_out : goal.returns-in-Index-clause-hands_out
returns-in-Index-clause-hands_out c =
    let is = c.in-Search.is ∙ ap (λ (it : Target). Search it c.in-Search.request) c.in-Index.is in
    rw is (looked_out c.in-Search.request c.args.self.now.catalog c.in-Index.index c.args.moment c.args.self.now.book.contexts c.search_index.result
    c.search_index.ensures.planned c.search_index.ensures.view)

pub returns-in-Pit-clause-hands_out : goal.returns-in-Pit-clause-hands_out
returns-in-Pit-clause-hands_out c =
    let is = c.in-Search.is ∙ ap (λ (it : Target). Search it c.in-Search.request) c.in-Pit.is in
    rw is (searched_out c.in-Search.request c.args.self.now.catalog c.in-Pit.number c.args.moment c.in-Pit.keep c.args.self.now.book.contexts
    c.search_pit.new.book.contexts c.search_pit.result c.search_pit.ensures.planned c.search_pit.ensures.leaves)

-- ---- where memory may run out

pub returns-in_err-step-in_default-clause-some : goal.returns-in_err-step-in_default-clause-some
returns-in_err-step-in_default-clause-some c =
    let alone : IsOfIndexes c.args.event.now = grind (arith, common_steps) in
    indexes_want c.args.event.now c.args.moment c.args.self.now.book.contexts alone c.from_residual-in_err-step-in_default.result

pub returns-in_err-open_pit-in-OpenPit-clause-some : goal.returns-in_err-open_pit-in-OpenPit-clause-some
returns-in_err-open_pit-in-OpenPit-clause-some c = may_want c.args.event.now _ c.args.moment c.args.self.now.book.contexts c.in-OpenPit.is tt c.from_residual.result

pub returns-in_err-freed-in-Close-clause-some : goal.returns-in_err-freed-in-Close-clause-some
returns-in_err-freed-in-Close-clause-some c =
    may_want c.args.event.now _ c.args.moment c.args.self.now.book.contexts c.in-Close.is c.in_err-freed-in-Close.ensures.some c.from_residual-in_err-freed-in-Close.result
