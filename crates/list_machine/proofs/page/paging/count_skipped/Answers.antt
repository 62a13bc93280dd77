-- One shard after the other.
use Rattle.std.proofs.Common.{◌≡◌, ℕ, ◌+◌, ◌<◌, cond, get_or, length, List, map, take, ap, sym, ◌∙◌, arith}
use Rattle.std.specs.List.{count_by}
use Rattle.std.proofs.lemmas.List.{get_or-map, length-map}
use Rattle.es_types.specs.declared.row.Row.{Row}
use Rattle.list_machine.specs.declared.page.view.ShardRef.{ShardRef}
use Rattle.list_machine.specs.Seen.Stores.{view_at}
use Rattle.list_machine.specs.Views.{is_skipped, skips_from}
use Rattle.list_machine.proofs.Matching.{bounded_at}
use Rattle.list_machine.proofs.PageLemmas.{skips-more}
use Rattle.list_machine.proofs.page.paging.count_skipped.Goals.{then-is_skipped, else-is_skipped}
use Rattle.list_machine.proofs.page.paging.count_skipped.Goals as goal

pub is_skipped-requires-clause-bounded : goal.is_skipped-requires-clause-bounded
is_skipped-requires-clause-bounded c = bounded_at c.args.view.now c.loop-at.at c.shard-item.result c.requires.bounded (omega (arith, c.loop-at-test.true)) c.shard-item.is

pub loop-at-preserved : goal.loop-at-preserved
loop-at-preserved c =
    let view = view_at c.args.view.now in
    let request = c.args.request.now in
    let shards = c.args.view.now.shards.now in
    let at = c.loop-at.at in
    let shard = c.shard-item.result in
    let rows_of : ShardRef → List Row = λ it. it.rows.now in
    let less : at < length shards = omega (arith, c.loop-at-test.true) in
    let there : shard.rows.now ≡ get_or (map rows_of shards) at shard.rows.now =
    ap rows_of c.shard-item.is ∙ sym (get_or-map rows_of shards at shard shard.rows.now less) in
    let bit : ℕ = cond (is_skipped view request.query request.slice at shard.rows.now) 1 0 in
    let lists = map rows_of shards in
    let count : ℕ → ℕ = λ n. count_by (λ skip. skip) (skips_from view request.query request.slice 0 (take n lists)) in
    let more : count (at + 1) ≡ count at + bit =
    skips-more view request.query request.slice lists at shard.rows.now (omega (arith, less, length-map shards rows_of)) there in
    elim c.if-is_skipped.branch [
      | then-is_skipped w ↦
          let one : bit ≡ 1 = ap (λ b. cond b 1 0) (sym c.is_skipped.ensures ∙ w.if-is_skipped.true) in
          (omega (arith, more, one, w.count-is, c.loop-at.invariant.0), omega (arith, w.count-is, c.loop-at.invariant.1))
      | else-is_skipped w ↦
          let none : bit ≡ 0 = ap (λ b. cond b 1 0) (sym c.is_skipped.ensures ∙ w.if-is_skipped.false) in
          (omega (arith, more, none, w.count-is, c.loop-at.invariant.0), omega (arith, w.count-is, c.loop-at.invariant.1))
    ]
