use Rattle.std.proofs.Common.{ap, ◌∙◌}
use Rattle.list_machine.specs.declared.event.Reply.TheVariants.{Found}
use Rattle.list_machine.specs.declared.page.request.Answer.{Answer}
use Rattle.list_machine.specs.Views.{View, answer}
use Rattle.es_node.proofs.search_exec.page.Goals as goal

pub returns : goal.returns
returns c = ap (λ (it : Answer). Found it) (c.in_ok-found.ensures ∙ ap (λ (view : View). answer view c.args.request c.args.request.from) c.body.ensures)
