-- The first page of a search leaves out what the search asks to.
use Rattle.std.proofs.Common.{◌≡◌, ℕ, IfOk, ap, rules, sym, ◌∙◌}
use Rattle.std.proofs.lemmas.Result.{IfOk-weaker}
use Rattle.list_machine.specs.declared.event.Reply.{Reply}
use Rattle.list_machine.specs.declared.event.Reply.TheVariants.{Found}
use Rattle.list_machine.specs.Views.{answer}
use Rattle.es_core.specs.declared.turned.Plan.{Plan}
use Rattle.es_core.specs.declared.turned.Plan.TheVariants.{Page}
use Rattle.es_core.specs.Plans.{CanRun, hits_before, plan_reply}
use Rattle.es_node.proofs.search_exec.run.Goals as goal

abbrev first_reply : Plan → Reply
first_reply (Page pass request pages end scroll) = Found (answer pass.body request request.from)

first_replies : (plan : Plan) → CanRun plan → plan_reply plan ≡ first_reply plan
first_replies (Page pass request pages end scroll) can = ap (λ (of : ℕ). Found (answer pass.body request (hits_before of pages request))) can.1.scroll_is

pub returns : goal.returns
returns c =
    let found : IfOk c.page.result (λ reply. reply ≡ first_reply c.args.plan) = search rules in
    IfOk-weaker c.page.result _ _ (λ reply is. is ∙ sym (first_replies c.args.plan c.requires)) found
