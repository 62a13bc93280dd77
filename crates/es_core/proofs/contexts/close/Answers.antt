use Rattle.std.proofs.Common.{ℕ, ap, length, min, ◌∙◌}
use Rattle.std.specs.List.{sum_by}
use Rattle.context_book.specs.Books.{is_kept}
use Rattle.es_core.proofs.Lending.{lent_parted}
use Rattle.es_core.proofs.Searches.{freed_seen, part_numbers}
use Rattle.es_core.proofs.contexts.close.Goals as goal

pub returns-clause-freed : goal.returns-clause-freed
returns-clause-freed c =
    c.count_shards-freed.ensures
    ∙ ap (λ owners. min (sum_by (λ owner. length owner.body.shards) owners) 18446744073709551615) (c.as_slice.ensures ∙ c.in_ok-owners.ensures.owners)
    ∙ ap (λ (n : ℕ). min n 18446744073709551615) (freed_seen c.args.moment c.args.which.now c.args.book.now.contexts)

pub returns-clause-numbers : goal.returns-clause-numbers
returns-clause-numbers c next below =
    part_numbers next (is_kept c.args.moment c.args.which.now) c.args.book.now c.close.new.self c.close.result c.close.ensures.kept c.close.ensures.err below

pub returns-clause-lent : goal.returns-clause-lent
returns-clause-lent c n all = lent_parted n (is_kept c.args.moment c.args.which.now) c.args.book.now c.close.new.self c.close.result c.close.ensures.kept c.close.ensures.err all
