-- The order of the keys is total, so a sort by it gives the enumeration.
use Rattle.std.proofs.Common.{◌≡◌, is_lt, rules}
use Rattle.std.proofs.lemmas.Fn.{always_returns_same}
use Rattle.std.proofs.lemmas.List.Sorted.{ranks_by}
use Rattle.es_sort.specs.Orders.{compare}
use Rattle.list_machine.specs.declared.page.candidates.Candidate.{Candidate}
use Rattle.list_machine.specs.Seen.Stores.{view_at}
use Rattle.list_machine.proofs.PageLemmas.{small_has_places, sorted_candidates}
use Rattle.list_machine.proofs.page.paging.found_in_order.Goals as goal

pub returns : goal.returns
returns c =
    sorted_candidates (record { total = c.strict_total_order.ensures.total; apart = c.strict_total_order.ensures.apart }) (view_at c.args.view.now) c.args.request.now.query c.args.request.now.sort c.args.request.now.slice
    c.in_ok-them.them.items c.sort_unstable_by.new.self.items (small_has_places (view_at c.args.view.now) c.requires.countable) c.in_ok-them.ensures c.sort_unstable_by.ensures.permutation
    (c.sort_unstable_by.ensures.sorted (λ (a b : Candidate). is_lt (compare c.args.request.now.sort a.key b.key)) (ranks_by (c.strict_total_order.ensures.total c.args.request.now.sort) (λ (a : Candidate). a.key))
    (always_returns_same _ (λ a r. is_lt r ≡ is_lt (compare c.args.request.now.sort a.0.now.key a.1.0.now.key)) _ (λ a r f' k. search rules)))
