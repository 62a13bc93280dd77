-- One shard after the other.
use Rattle.std.proofs.Common.{◌≡◌, ◌<◌, ◌≤◌, List, ap, arith, get_or, length, map, sym, ◌∙◌}
use Rattle.std.proofs.lemmas.List.{get_or-map, length-map}
use Rattle.es_types.specs.declared.row.Row.{Row}
use Rattle.list_machine.specs.declared.page.view.ShardRef.{ShardRef}
use Rattle.list_machine.specs.Seen.Stores.{view_at}
use Rattle.list_machine.specs.Views.{is_wanted}
use Rattle.list_machine.proofs.Matching.{adds_shard, bounded_at}
use Rattle.list_machine.proofs.StoreLemmas.{All-from_map, All-read}
use Rattle.list_machine.proofs.page.candidates.candidates.Goals as goal

pub look_at-requires-clause-few : goal.look_at-requires-clause-few
look_at-requires-clause-few c =
    All-read (λ (shard : ShardRef). length shard.rows.now ≤ 2147483647) c.args.view.now.shards.now c.loop-at.at c.shard-item.result (omega (arith, c.loop-at-test.true)) c.shard-item.is
    (All-from_map (λ (rows : List Row). length rows ≤ 2147483647) (λ (shard : ShardRef). shard.rows.now) c.args.view.now.shards.now c.requires.countable.rows)

pub look_at-requires-clause-bounded : goal.look_at-requires-clause-bounded
look_at-requires-clause-bounded c =
    bounded_at c.args.view.now c.loop-at.at c.shard-item.result c.requires.bounded (omega (arith, c.loop-at-test.true)) c.shard-item.is

pub loop-at-preserved : goal.loop-at-preserved
loop-at-preserved c =
    let shards = c.args.view.now.shards.now in
    let at = c.loop-at.at in
    let shard = c.shard-item.result in
    let rows_of : ShardRef → List Row = λ it. it.rows.now in
    let request = c.args.request.now in
    let less : at < length shards = omega (arith, c.loop-at-test.true) in
    let there : shard.rows.now ≡ get_or (map rows_of shards) at shard.rows.now =
    ap rows_of c.shard-item.is ∙ sym (get_or-map rows_of shards at shard shard.rows.now less) in
    adds_shard (view_at c.args.view.now) request.sort (is_wanted (view_at c.args.view.now) request.query request.slice) (map rows_of shards) at shard.rows.now c.loop-at.them.items c.look_at.new.them.items (omega (arith, less, length-map shards rows_of)) there c.loop-at.invariant c.in_ok-look_at.ensures
