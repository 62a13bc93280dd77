use Rattle.std.proofs.Common.{ap, arith, filter, length, List, subst, sym, ◌∙◌}
use Rattle.std.proofs.lemmas.List.{length-map}
use Rattle.list_machine.specs.declared.page.candidates.Candidate.{Candidate}
use Rattle.list_machine.specs.declared.page.view.ShardRef.{ShardRef}
use Rattle.list_machine.specs.Seen.Paging.{AreCandidates, place_seen}
use Rattle.list_machine.specs.Seen.Stores.{view_at}
use Rattle.list_machine.specs.Views.{enumeration, is_past}
use Rattle.list_machine.proofs.PageLemmas.{answer_is, beyond_are}
use Rattle.list_machine.proofs.page.paging.answer.Goals as goal

pub page_of-requires : goal.page_of-requires
page_of-requires c =
    let view = view_at c.args.view.now in
    let request = c.args.request.now in
    let all = enumeration view request.query request.sort request.slice in
    subst (λ (them : List Candidate). AreCandidates view request.sort (filter (is_past view request.sort request.after) all) them) (sym (c.deref.ensures.value ∙ c.beyond-left.ensures))
    (beyond_are view request.sort request.after all c.in_ok-found.found.items c.in_ok-found.ensures)

pub returns : goal.returns
returns c =
    let view = c.args.view.now in
    let request = c.args.request.now in
    answer_is (view_at view) request c.args.skip _ c.count_skipped-skipped.result c.phases.result c.len-total.result c.of.result
    (sym (length-map view.shards.now (λ (shard : ShardRef). shard.rows.now)))
    c.count_skipped-skipped.ensures.is
    c.phases.ensures
    (omega (arith, c.len-total.ensures, length-map c.in_ok-found.found.items place_seen, ap length c.in_ok-found.ensures.are))
    (c.of.ensures ∙ c.in_ok-hits.ensures)
