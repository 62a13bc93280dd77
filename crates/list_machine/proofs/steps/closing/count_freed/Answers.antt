use Rattle.std.proofs.Common.{length, ap, ◌∙◌, arith}
use Rattle.std.proofs.lemmas.List.{take_all}
use Rattle.list_machine.specs.declared.context.ContextStore.{ContextStore}
use Rattle.list_machine.proofs.Freed.{freed_few, freed_in, freed_is}
use Rattle.list_machine.proofs.steps.closing.count_freed.Goals as goal

pub overflow_add-freed : goal.overflow_add-freed
overflow_add-freed c =
    let few = freed_few c.args.moment c.args.which.now c.args.contexts.now c.loop-context.context-index c.context-item.result (omega arith) c.context-item.is c.requires.small in
    omega (arith, few, c.requires.few, c.loop-context.invariant, c.len.ensures, ap (λ (it : ContextStore). length it.shards.items) c.context-item.is)

pub returns : goal.returns
returns c =
    c.loop-context.invariant ∙ ap (freed_in c.args.moment c.args.which.now) (take_all c.loop-context.context-index c.args.contexts.now (omega arith))
    ∙ freed_is c.args.moment c.args.which.now c.args.contexts.now
