use Rattle.std.proofs.Common.{List, ap, refl, arith}
use Rattle.std.proofs.lemmas.List.{length-map}
use Rattle.std.proofs.lemmas.Result.{IfOk-weaker, on_err_weaker}
use Rattle.list_machine.specs.Rows.{Shard}
use Rattle.list_machine.specs.State.{Index}
use Rattle.list_machine.specs.Step.{write}
use Rattle.list_machine.specs.Seen.Stores.{IsCountedIndex, index_seen, indexes_seen, most_entries, shard_seen}
use Rattle.list_machine.proofs.IndexLemmas.{found_at, holds_at, index_of-none, seen_same, write_moves}
use Rattle.list_machine.proofs.steps.writing.write.Goals as goal

pub returns-in_default-clause-ok : goal.returns-in_default-clause-ok
returns-in_default-clause-ok c state =
    ap (λ found. write (record state { indexes = indexes_seen c.args.indexes.now.items }) c.args.id.now c.args.change.now found)
    (index_of-none index_seen c.args.name.now c.args.indexes.now.items c.deref.result.now c.place_of.result c.deref.ensures.value c.place_of.ensures c.in_default.is)

pub write_in-requires : goal.write_in-requires
write_in-requires c =
    let store = c.index_mut-index.result.now in
    let found = found_at index_seen c.args.name.now c.args.indexes.now.items c.deref.result.now c.in-Some.at store c.place_of.result
    c.deref.ensures.value c.place_of.ensures c.in-Some.is c.index_mut-index.ensures.value in
    let counted = holds_at found (IsCountedIndex most_entries) c.requires in
    record {
      some = omega (arith, counted.some, length-map store.shards.items shard_seen);
      few = omega (arith, counted.few, length-map store.shards.items shard_seen);
      numbers = counted.numbers;
    }

pub returns-clause-ok : goal.returns-clause-ok
returns-clause-ok c =
    let store = c.index_mut-index.result.now in
    let found = found_at index_seen c.args.name.now c.args.indexes.now.items c.deref.result.now c.in-Some.at store c.place_of.result
    c.deref.ensures.value c.place_of.ensures c.in-Some.is c.index_mut-index.ensures.value in
    IfOk-weaker c.write_in.result _ _ (λ reply is. write_moves found c.args.id.now c.args.change.now (record store { shards = c.write_in.new.shards }) refl reply is) c.write_in.ensures.ok

pub returns-clause-err : goal.returns-clause-err
returns-clause-err c =
    let store = c.index_mut-index.result.now in
    let found = found_at index_seen c.args.name.now c.args.indexes.now.items c.deref.result.now c.in-Some.at store c.place_of.result
    c.deref.ensures.value c.place_of.ensures c.in-Some.is c.index_mut-index.ensures.value in
    let with_shards : List Shard → Index = λ them. record (index_seen store) { shards = them } in
    on_err_weaker c.write_in.result (λ same. seen_same found (record store { shards = c.write_in.new.shards }) (ap with_shards same)) c.write_in.ensures.err
