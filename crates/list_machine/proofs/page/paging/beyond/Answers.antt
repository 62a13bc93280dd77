use Rattle.std.proofs.Common.{ap, filter, rules, sym, ◌∙◌}
use Rattle.std.proofs.lemmas.Fn.{filter_same}
use Rattle.es_sort.specs.Orders.{is_after}
use Rattle.list_machine.specs.declared.page.candidates.Candidate.{Candidate}
use Rattle.list_machine.specs.Seen.Paging.{key_past}
use Rattle.list_machine.proofs.PageLemmas.{beyond_none}
use Rattle.list_machine.proofs.page.paging.beyond.Goals as goal

pub returns-in-Some : goal.returns-in-Some
returns-in-Some c =
    filter_same _ (λ (one : Candidate). is_after c.args.request.now.sort one.key c.in-Some.after) _ (λ x b f' k. search rules) c.args.found.items c.retain.new.self.items c.retain.ensures.filtered
    ∙ ap (λ after. filter (λ (one : Candidate). key_past c.args.request.now.sort after one.key) c.args.found.items) (sym c.in-Some.is)

pub returns-in_default : goal.returns-in_default
returns-in_default c = beyond_none c.args.request.now.sort c.args.request.now.after c.args.found.items c.in_default.is
