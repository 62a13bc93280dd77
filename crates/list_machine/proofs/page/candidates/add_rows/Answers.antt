-- One row after the other.
use Rattle.std.proofs.Common.{◌≡◌, ◌&&◌, [], ◌∷◌, ap, arith, cond, false, List, subst, sym, ◌∙◌}
use Rattle.std.proofs.lemmas.List.{length-map, take_all}
use Rattle.es_types.specs.declared.row.Row.{Row}
use Rattle.es_query.specs.Matches.{matches}
use Rattle.list_machine.specs.declared.page.view.ShardRef.{ShardRef}
use Rattle.list_machine.specs.Seen.Paging.{AddsPassing}
use Rattle.list_machine.specs.Seen.Stores.{view_at}
use Rattle.list_machine.specs.Views.{Place, is_had, is_wanted, places_of_shard}
use Rattle.list_machine.proofs.Matching.{adds_row, places_miss}
use Rattle.list_machine.proofs.page.candidates.add_rows.Goals.{then-has+in_ok-add_row, else-has}
use Rattle.list_machine.proofs.page.candidates.add_rows.Goals as goal

pub loop-rank-preserved : goal.loop-rank-preserved
loop-rank-preserved c =
    let request = c.args.request.now in
    let view = view_at c.args.view.now in
    let passes = is_wanted view request.query request.slice in
    let at = c.args.at in
    let rank = c.loop-rank.rank in
    let row = c.index-rows-rank.result in
    let place : Place = record { shard = at; rank = rank; row = row } in
    let rows = c.args.rows.now in
    let old = c.args.them.now.items in
    let them = c.loop-rank.them.items in
    adds_row view request.sort passes at rows rank row old them c.if-has.them.items (omega (arith, c.loop-rank-test.true)) c.index-rows-rank.is c.loop-rank.invariant
    (elim c.if-has.branch [
      | then-has+in_ok-add_row w ↦ subst (λ v. AddsPassing view request.sort passes (place ∷ []) them v.items) (sym w.them-is) w.in_ok-add_row.ensures
      | else-has w ↦
          let many = ap (λ n. is_had n request.slice at rank) (length-map c.args.view.now.shards.now (λ (shard : ShardRef). shard.rows.now)) in
          let none : passes place ≡ false = ap (λ b. b && matches view.mapping row.values request.query) (many ∙ sym (c.requires.covers rank) ∙ sym c.has.ensures ∙ w.if-has.false) in
          subst (λ v. AddsPassing view request.sort passes (place ∷ []) them v.items) (sym w.them-is)
          (places_miss view request.sort passes (place ∷ []) them (ap (λ b. cond b (place ∷ []) []) none))
    ])

pub returns : goal.returns
returns c =
    let request = c.args.request.now in
    let view = view_at c.args.view.now in
    subst (λ (rows : List Row). AddsPassing view request.sort (is_wanted view request.query request.slice) (places_of_shard c.args.at 0 rows) c.args.them.now.items c.loop-rank.them.items)
    (take_all c.loop-rank.rank c.args.rows.now c.loop-rank-test.false) c.loop-rank.invariant
