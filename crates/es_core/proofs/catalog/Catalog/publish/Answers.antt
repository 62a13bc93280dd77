use Rattle.std.proofs.Common.{List, ap, set, subst, ◌∙◌}
use Rattle.std.proofs.lemmas.Result.{err_from_is_err_and}
use Rattle.list_machine.specs.Changes.{Moves}
use Rattle.list_machine.specs.declared.event.Event.TheVariants.{Publish}
use Rattle.list_machine.specs.declared.event.Reply.TheVariants.{Done}
use Rattle.list_machine.specs.State.{Index as Seen}
use Rattle.list_machine.specs.Step.{happen, publish_index}
use Rattle.list_machine.proofs.IndexLemmas.{publish_moves, seen_same}
use Rattle.es_core.specs.Indexes.{indexes_seen}
use Rattle.es_core.proofs.IndexLemmas.{found_placed, none_placed}
use Rattle.es_core.proofs.catalog.Catalog.publish.Goals as goal

pub returns-in_default-clause-ok : goal.returns-in_default-clause-ok
returns-in_default-clause-ok c state =
    ap (λ found. publish_index (record state { indexes = c.args.self.now }) c.args.shard c.args.upto found)
    (none_placed c.self.inside.places c.args.name.now c.self.inside.indexes.items c.place_of.result c.args.self.now c.self.view_is c.self.invariant c.place_of.ensures c.in_default.is)

pub returns-in_err-publish-clause-err : goal.returns-in_err-publish-clause-err
returns-in_err-publish-clause-err c =
    let found = found_placed c.self.inside.places c.args.name.now c.self.inside.indexes.items c.in-Some.at c.index_mut.result.now c.place_of.result
    c.self.invariant c.place_of.ensures c.in-Some.is c.index_mut.ensures.value in
    let p = err_from_is_err_and c.from_residual.result c.from_residual.ensures.1 in
    rw p.1 (seen_same found c.publish.new.self c.in_err-publish.ensures.err ∙ c.self.view_is)

pub returns-clause-ok : goal.returns-clause-ok
returns-clause-ok c =
    let found = found_placed c.self.inside.places c.args.name.now c.self.inside.indexes.items c.in-Some.at c.index_mut.result.now c.place_of.result
    c.self.invariant c.place_of.ensures c.in-Some.is c.index_mut.ensures.value in
    let after : List Seen = indexes_seen (set c.self.inside.indexes.items c.in-Some.at c.publish.new.self) in
    subst (λ (them : List Seen). Moves (λ state. happen state (Publish c.args.name.now c.args.shard c.args.upto)) them after Done) c.self.view_is
    (publish_moves found c.args.shard c.args.upto c.publish.new.self c.publish.ensures.like c.in_ok-publish.ensures.ok)
