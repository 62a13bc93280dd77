use Rattle.std.proofs.Common.{ap, ◌∙◌}
use Rattle.std.proofs.lemmas.Result.{IfOk-weaker}
use Rattle.list_machine.specs.Step.{create}
use Rattle.es_core.proofs.IndexLemmas.{none_placed, some_placed}
use Rattle.es_core.proofs.catalog.Catalog.create.Goals as goal

pub returns-in-Some-clause-ok : goal.returns-in-Some-clause-ok
returns-in-Some-clause-ok c state =
    let some = some_placed c.self.inside.places c.args.name.now c.self.inside.indexes.items c.in-Some.field-0 c.place_of.result c.args.self.now c.self.view_is
    c.self.invariant c.place_of.ensures c.in-Some.is in
    ap (λ found. create (record state { indexes = c.args.self.now }) c.args.name.now c.args.shards c.args.mapping.now found) some.1

pub add_index-requires-clause-free : goal.add_index-requires-clause-free
add_index-requires-clause-free c =
    none_placed c.self.inside.places c.args.name.now c.self.inside.indexes.items c.place_of.result c.args.self.now c.self.view_is c.self.invariant c.place_of.ensures c.in-None.is

pub returns-in-None-clause-ok : goal.returns-in-None-clause-ok
returns-in-None-clause-ok c =
    let none = (none_placed c.self.inside.places c.args.name.now c.self.inside.indexes.items c.place_of.result c.args.self.now c.self.view_is c.self.invariant c.place_of.ensures c.in-None.is) in
    IfOk-weaker c.add_index.result _ _
    (λ reply moves state. ap (λ found. create (record state { indexes = c.args.self.now }) c.args.name.now c.args.shards c.args.mapping.now found) none ∙ moves state)
    c.add_index.ensures.ok
