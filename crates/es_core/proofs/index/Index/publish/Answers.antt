use Rattle.std.proofs.Common.{false, true, ◌<◌, length, sym, ◌∙◌, arith, length-set}
use Rattle.std.specs.Arc.{arc_value}
use Rattle.es_core.proofs.ShownLemmas.{left_by, published, shown_gone}
use Rattle.es_core.proofs.index.Index.publish.Goals as goal

pub invariant_of-self-then-branch-clause-few : goal.invariant_of-self-then-branch-clause-few
invariant_of-self-then-branch-clause-few c = omega (arith, c.args.self.now.few, length-set c.args.self.now.shards.items c.args.at c.publish.new.self)

pub invariant_of-self-then-branch-clause-shown : goal.invariant_of-self-then-branch-clause-shown
invariant_of-self-then-branch-clause-shown c =
    let index = c.args.self.now in
    shown_gone (arc_value index.mapping) index.shards.items index.views.items c.args.at c.publish.new.self index.shown (omega arith)

pub returns-then-branch-clause-ok : goal.returns-then-branch-clause-ok
returns-then-branch-clause-ok c =
    published c.args.self.now.shards.items c.args.at c.args.upto c.index_mut.result.now c.publish.new.self (omega arith) c.index_mut.ensures.value c.in_ok-publish.ensures.ok

pub returns-then-branch-clause-kept : goal.returns-then-branch-clause-kept
returns-then-branch-clause-kept c =
    sym (left_by c.args.self.now.views.items c.args.self.now.shards.items c.args.at c.args.upto c.index_mut.result.now true (omega arith) c.index_mut.ensures.value
    (sym c.in_ok-publish.ensures.applied ∙ c.if-branch.true))

pub returns-else-branch-clause-ok : goal.returns-else-branch-clause-ok
returns-else-branch-clause-ok c =
    published c.args.self.now.shards.items c.args.at c.args.upto c.index_mut.result.now c.publish.new.self (omega arith) c.index_mut.ensures.value c.in_ok-publish.ensures.ok

pub returns-else-branch-clause-kept : goal.returns-else-branch-clause-kept
returns-else-branch-clause-kept c =
    sym (left_by c.args.self.now.views.items c.args.self.now.shards.items c.args.at c.args.upto c.index_mut.result.now false (omega arith) c.index_mut.ensures.value
    (sym c.in_ok-publish.ensures.applied ∙ c.if-branch.false))
