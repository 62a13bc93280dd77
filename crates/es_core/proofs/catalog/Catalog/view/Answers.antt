use Rattle.std.proofs.Common.{Some, ap, sym, ◌∙◌}
use Rattle.std.specs.Option.{option_map}
use Rattle.list_machine.specs.State.{Index as Seen, index_of, view_of}
use Rattle.list_machine.specs.Views.{View}
use Rattle.list_machine.proofs.IndexLemmas.{seen_same}
use Rattle.es_core.proofs.IndexLemmas.{found_placed, none_placed}
use Rattle.es_core.proofs.catalog.Catalog.view.Goals as goal

pub returns-in_default-clause-view : goal.returns-in_default-clause-view
returns-in_default-clause-view c =
    sym (ap (option_map view_of) (none_placed c.self.inside.places c.args.name.now c.self.inside.indexes.items c.place_of.result c.args.self.now c.self.view_is c.self.invariant c.place_of.ensures c.in_default.is))

pub returns-in_err-view-clause-same : goal.returns-in_err-view-clause-same
returns-in_err-view-clause-same c =
    let found = found_placed c.self.inside.places c.args.name.now c.self.inside.indexes.items c.in-Some.at c.index_mut.result.now c.place_of.result
    c.self.invariant c.place_of.ensures c.in-Some.is c.index_mut.ensures.value in
    seen_same found c.view.new.self c.view.ensures.same ∙ c.self.view_is

pub returns-clause-view : goal.returns-clause-view
returns-clause-view c =
    let found = found_placed c.self.inside.places c.args.name.now c.self.inside.indexes.items c.in-Some.at c.index_mut.result.now c.place_of.result
    c.self.invariant c.place_of.ensures c.in-Some.is c.index_mut.ensures.value in
    ap (λ (it : View). Some it) c.in_ok-view.ensures.view
    ∙ sym (ap (option_map view_of) (ap (index_of c.args.name.now) (sym c.self.view_is) ∙ found.there))

pub returns-clause-same : goal.returns-clause-same
returns-clause-same c =
    let found = found_placed c.self.inside.places c.args.name.now c.self.inside.indexes.items c.in-Some.at c.index_mut.result.now c.place_of.result
    c.self.invariant c.place_of.ensures c.in-Some.is c.index_mut.ensures.value in
    seen_same found c.view.new.self c.view.ensures.same ∙ c.self.view_is
