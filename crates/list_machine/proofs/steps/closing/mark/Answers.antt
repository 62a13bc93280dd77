use Rattle.std.proofs.Common.{sym, ap, ◌∙◌, arith}
use Rattle.list_machine.specs.declared.context.ContextStore.{ContextStore}
use Rattle.list_machine.specs.Step.{close_one}
use Rattle.list_machine.specs.Seen.Stores.{context_seen, contexts_seen}
use Rattle.list_machine.proofs.StoreLemmas.{changed_upto}
use Rattle.list_machine.proofs.steps.closing.mark.Goals as goal

pub loop-context-preserved : goal.loop-context-preserved
loop-context-preserved c =
    let to = close_one c.args.moment c.args.which.now in
    changed_upto context_seen to (contexts_seen c.args.contexts.now.items) c.loop-context.context-items c.loop-context.context-index c.context-item.result c.mark_one.new.context
    (omega arith) c.loop-context.invariant c.context-item.is (c.mark_one.ensures ∙ ap (λ (it : ContextStore). to (context_seen it)) (sym c.context-item.is))
