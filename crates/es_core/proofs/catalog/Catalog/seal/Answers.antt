use Rattle.std.proofs.Common.{◌≡◌, List, ap, map, subst, sym, ◌∙◌}
use Rattle.list_machine.specs.Changes.{Moves}
use Rattle.list_machine.specs.declared.event.Event.TheVariants.{Seal}
use Rattle.list_machine.specs.declared.event.Reply.TheVariants.{Sealed}
use Rattle.list_machine.specs.Seen.Stores.{AreNumbered, most_entries}
use Rattle.list_machine.specs.State.{Index as Seen}
use Rattle.list_machine.specs.Step.{happen, seal}
use Rattle.list_machine.proofs.IndexLemmas.{holds_at, seal_moves}
use Rattle.es_core.specs.Indexes.{AllNumbered}
use Rattle.es_core.specs.Shards.{sealed}
use Rattle.es_core.proofs.IndexLemmas.{found_placed, none_placed, sealed_all}
use Rattle.es_core.proofs.catalog.Catalog.seal.Goals as goal

pub returns-in_default : goal.returns-in_default
returns-in_default c numbered state =
    ap (λ found. seal (record state { indexes = c.args.self.now }) found)
    (none_placed c.self.inside.places c.args.name.now c.self.inside.indexes.items c.place_of.result c.args.self.now c.self.view_is c.self.invariant c.place_of.ensures c.in_default.is)

pub returns : goal.returns
returns c numbered =
    let store = c.index.result.now in
    let found = found_placed c.self.inside.places c.args.name.now c.self.inside.indexes.items c.in-Some.at store c.place_of.result
    c.self.invariant c.place_of.ensures c.in-Some.is c.index.ensures in
    let small : AreNumbered most_entries store.shards.items = holds_at found (λ (index : Seen). AreNumbered most_entries index.shards) (subst AllNumbered (sym c.self.view_is) numbered) in
    let numbers : c.of.result ≡ map sealed store.shards.items = cc (c.of.ensures, c.in_ok-numbers.ensures) in
    subst (λ (them : List Seen). Moves (λ state. happen state (Seal c.args.name.now)) them them (Sealed c.of.result)) c.self.view_is (seal_moves found c.of.result (numbers ∙ sealed_all store.shards.items small))
