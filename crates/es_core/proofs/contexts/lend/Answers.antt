use Rattle.context_book.specs.Books.{live_one}
use Rattle.es_core.proofs.Lending.{can_lend, few_book}
use Rattle.es_core.proofs.Searches.{lent_book_numbers, lent_book_seen}
use Rattle.es_core.proofs.contexts.lend.Goals as goal

pub lend-requires : goal.lend-requires
lend-requires c = can_lend (live_one c.args.number c.args.moment c.args.book.now.contexts) c.requires.room

pub returns-in-Ok-clause-same : goal.returns-in-Ok-clause-same
returns-in-Ok-clause-same c = lent_book_seen c.args.number c.args.book.now c.lend.new.self c.lend.result c.lend.ensures.lent c.lend.ensures.same

pub returns-in-Ok-clause-few : goal.returns-in-Ok-clause-few
returns-in-Ok-clause-few c few = few_book c.args.number c.args.moment c.args.book.now c.lend.new.self c.lend.result c.requires.rise c.requires.room c.lend.ensures.lent c.lend.ensures.same few

pub returns-in-Ok-clause-numbers : goal.returns-in-Ok-clause-numbers
returns-in-Ok-clause-numbers c next below = lent_book_numbers next c.args.number c.args.book.now c.lend.new.self c.lend.result c.lend.ensures.lent c.lend.ensures.same below

pub returns-in-Err-clause-same : goal.returns-in-Err-clause-same
returns-in-Err-clause-same c = lent_book_seen c.args.number c.args.book.now c.lend.new.self c.lend.result c.lend.ensures.lent c.lend.ensures.same

pub returns-in-Err-clause-few : goal.returns-in-Err-clause-few
returns-in-Err-clause-few c few = few_book c.args.number c.args.moment c.args.book.now c.lend.new.self c.lend.result c.requires.rise c.requires.room c.lend.ensures.lent c.lend.ensures.same few

pub returns-in-Err-clause-numbers : goal.returns-in-Err-clause-numbers
returns-in-Err-clause-numbers c next below = lent_book_numbers next c.args.number c.args.book.now c.lend.new.self c.lend.result c.lend.ensures.lent c.lend.ensures.same below
