use Rattle.std.proofs.Common.{List, Some, ap, sym, ◌∙◌}
use Rattle.std.specs.Option.{option_map}
use Rattle.es_types.specs.declared.mapping.Field.{Field}
use Rattle.list_machine.specs.State.{Index as Seen, index_of}
use Rattle.es_core.proofs.IndexLemmas.{found_placed, none_placed}
use Rattle.es_core.proofs.catalog.Catalog.mapping.Goals as goal

pub returns-in_default : goal.returns-in_default
returns-in_default c =
    sym (ap (option_map (λ (index : Seen). index.mapping)) (none_placed c.self.inside.places c.args.name.now c.self.inside.indexes.items c.place_of.result c.args.self.now c.self.view_is c.self.invariant c.place_of.ensures c.in_default.is))

pub returns : goal.returns
returns c =
    let found = found_placed c.self.inside.places c.args.name.now c.self.inside.indexes.items c.in-Some.at c.index.result.now c.place_of.result
    c.self.invariant c.place_of.ensures c.in-Some.is c.index.ensures in
    ap (λ (mapping : List Field). Some mapping) c.deref.ensures
    ∙ sym (ap (option_map (λ (index : Seen). index.mapping)) (ap (index_of c.args.name.now) (sym c.self.view_is) ∙ found.there))
