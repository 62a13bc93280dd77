use Rattle.std.proofs.Common.{List, ap, refl}
use Rattle.std.proofs.lemmas.Result.{err_from_is_err_and}
use Rattle.list_machine.specs.Rows.{Shard}
use Rattle.list_machine.specs.State.{Index}
use Rattle.list_machine.specs.Step.{publish_index}
use Rattle.list_machine.specs.Seen.Stores.{IsCountedIndex, index_seen, indexes_seen, most_entries}
use Rattle.list_machine.proofs.IndexLemmas.{found_at, holds_at, index_of-none, publish_moves, seen_same}
use Rattle.list_machine.proofs.steps.publishing.publish.Goals as goal

pub returns-in_default-clause-ok : goal.returns-in_default-clause-ok
returns-in_default-clause-ok c state =
    ap (λ found. publish_index (record state { indexes = indexes_seen c.args.indexes.now.items }) c.args.shard c.args.upto found)
    (index_of-none index_seen c.args.name.now c.args.indexes.now.items c.deref.result.now c.place_of.result c.deref.ensures.value c.place_of.ensures c.in_default.is)

pub publish_in-requires : goal.publish_in-requires
publish_in-requires c =
    let found = found_at index_seen c.args.name.now c.args.indexes.now.items c.deref.result.now c.in-Some.at c.index_mut.result.now c.place_of.result
    c.deref.ensures.value c.place_of.ensures c.in-Some.is c.index_mut.ensures.value in
    (holds_at found (IsCountedIndex most_entries) c.requires).numbers

pub returns-in_err-publish_in-clause-err : goal.returns-in_err-publish_in-clause-err
returns-in_err-publish_in-clause-err c =
    let found = found_at index_seen c.args.name.now c.args.indexes.now.items c.deref.result.now c.in-Some.at c.index_mut.result.now c.place_of.result
    c.deref.ensures.value c.place_of.ensures c.in-Some.is c.index_mut.ensures.value in
    let p = err_from_is_err_and c.from_residual.result c.from_residual.ensures.1 in
    let with_shards : List Shard → Index = λ them. record (index_seen c.index_mut.result.now) { shards = them } in
    rw p.1 (seen_same found (record c.index_mut.result.now { shards = c.publish_in.new.shards }) (ap with_shards c.in_err-publish_in.ensures.err))

pub returns-clause-ok : goal.returns-clause-ok
returns-clause-ok c =
    let found = found_at index_seen c.args.name.now c.args.indexes.now.items c.deref.result.now c.in-Some.at c.index_mut.result.now c.place_of.result
    c.deref.ensures.value c.place_of.ensures c.in-Some.is c.index_mut.ensures.value in
    publish_moves found c.args.shard c.args.upto (record c.index_mut.result.now { shards = c.publish_in.new.shards }) refl c.in_ok-publish_in.ensures.ok
