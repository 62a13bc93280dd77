use Rattle.std.proofs.Common.{ap, ◌∙◌}
use Rattle.std.proofs.lemmas.Result.{IfOk-weaker}
use Rattle.list_machine.specs.Step.{create}
use Rattle.list_machine.specs.Seen.Stores.{index_seen, indexes_seen}
use Rattle.list_machine.proofs.IndexLemmas.{index_of-none, some_index}
use Rattle.list_machine.proofs.steps.creating.create.Goals as goal

pub returns-in-Some-clause-ok : goal.returns-in-Some-clause-ok
returns-in-Some-clause-ok c state =
    let some = some_index index_seen c.args.name.now c.args.indexes.now.items c.deref.result.now _ c.place_of.result
    c.deref.ensures.value c.place_of.ensures c.in-Some.is in
    ap (create (record state { indexes = indexes_seen c.args.indexes.now.items }) c.args.name.now c.args.shards c.args.mapping.now) some.1

pub returns-in-None-clause-ok : goal.returns-in-None-clause-ok
returns-in-None-clause-ok c =
    let none = index_of-none index_seen c.args.name.now c.args.indexes.now.items c.deref.result.now c.place_of.result c.deref.ensures.value c.place_of.ensures c.in-None.is in
    IfOk-weaker c.add_index.result _ _
    (λ reply moves state. ap (create (record state { indexes = indexes_seen c.args.indexes.now.items }) c.args.name.now c.args.shards c.args.mapping.now) none ∙ moves state)
    c.add_index.ensures.ok
