use Rattle.std.proofs.Common.{Option, ℕ, true, ◌+◌, ◌<◌, All, ap, arith, subst, sym, ◌∙◌}
use Rattle.context_book.specs.declared.context.Context.{Context}
use Rattle.context_book.specs.Books.{Book}
use Rattle.es_core.specs.Contexts.{AllLent, contexts_seen, kept_on_answer}
use Rattle.es_core.proofs.Lending.{lent_kept}
use Rattle.es_core.proofs.Searches.{kept_numbers, kept_seen, touched_book}
use Rattle.es_core.proofs.contexts.keep_longer.Goals as goal

pub returns-in-Some-clause-kept : goal.returns-in-Some-clause-kept
returns-in-Some-clause-kept c =
    let book = c.args.book.now in
    let now = touched_book c.args.number c.args.moment (c.millis.result + c.millis-in-Some.result) c.in-Some.keep book c.touch.new.self c.touch.result (omega arith)
    c.touch.ensures.missing c.requires c.touch.ensures.ok in
    ap (λ (it : Book). contexts_seen it.contexts) now
    ∙ kept_seen c.args.moment c.args.number c.in-Some.keep book.contexts
    ∙ ap (λ (keep : Option ℕ). kept_on_answer c.args.moment c.args.number keep true (contexts_seen book.contexts)) (sym c.in-Some.is)

pub returns-in-Some-clause-numbers : goal.returns-in-Some-clause-numbers
returns-in-Some-clause-numbers c next below =
    let book = c.args.book.now in
    let now = touched_book c.args.number c.args.moment (c.millis.result + c.millis-in-Some.result) c.in-Some.keep book c.touch.new.self c.touch.result (omega arith)
    c.touch.ensures.missing c.requires c.touch.ensures.ok in
    subst (λ (it : Book). All (λ (context : Context). context.number < next) it.contexts) (sym now) (kept_numbers next c.args.number (c.args.moment + c.in-Some.keep) book.contexts below)

pub returns-in-Some-clause-lent : goal.returns-in-Some-clause-lent
returns-in-Some-clause-lent c n all =
    let book = c.args.book.now in
    let now = touched_book c.args.number c.args.moment (c.millis.result + c.millis-in-Some.result) c.in-Some.keep book c.touch.new.self c.touch.result (omega arith)
    c.touch.ensures.missing c.requires c.touch.ensures.ok in
    subst (λ (it : Book). AllLent n it.contexts) (sym now) (lent_kept n c.args.number (c.args.moment + c.in-Some.keep) book.contexts all)

pub returns-in-Some-clause-on : goal.returns-in-Some-clause-on
returns-in-Some-clause-on c =
    let book = c.args.book.now in
    let now = touched_book c.args.number c.args.moment (c.millis.result + c.millis-in-Some.result) c.in-Some.keep book c.touch.new.self c.touch.result (omega arith)
    c.touch.ensures.missing c.requires c.touch.ensures.ok in
    rw c.in-Some.is (ap (λ (it : Book). it.contexts) now)
