use Rattle.std.proofs.Common.{ap, ◌∙◌}
use Rattle.std.proofs.lemmas.Result.{on_err_weaker}
use Rattle.list_machine.specs.Step.{write}
use Rattle.list_machine.proofs.IndexLemmas.{seen_same}
use Rattle.es_core.proofs.IndexLemmas.{found_placed, none_placed, write_seen}
use Rattle.es_core.proofs.catalog.Catalog.write.Goals as goal

pub returns-in_default-clause-ok : goal.returns-in_default-clause-ok
returns-in_default-clause-ok c numbered state =
    ap (λ found. write (record state { indexes = c.args.self.now }) c.args.id.now c.args.change.now found)
    (none_placed c.self.inside.places c.args.name.now c.self.inside.indexes.items c.place_of.result c.args.self.now c.self.view_is c.self.invariant c.place_of.ensures c.in_default.is)

pub returns-clause-ok : goal.returns-clause-ok
returns-clause-ok c =
    let found = found_placed c.self.inside.places c.args.name.now c.self.inside.indexes.items c.in-Some.at c.index_mut.result.now c.place_of.result
    c.self.invariant c.place_of.ensures c.in-Some.is c.index_mut.ensures.value in
    write_seen found c.args.self.now c.self.view_is c.args.id.now c.args.change.now c.write.new.self c.write.ensures.like c.write.result c.write.ensures.ok

pub returns-clause-err : goal.returns-clause-err
returns-clause-err c =
    let found = found_placed c.self.inside.places c.args.name.now c.self.inside.indexes.items c.in-Some.at c.index_mut.result.now c.place_of.result
    c.self.invariant c.place_of.ensures c.in-Some.is c.index_mut.ensures.value in
    on_err_weaker c.write.result (λ same. seen_same found c.write.new.self same ∙ c.self.view_is) c.write.ensures.err
