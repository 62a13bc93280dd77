use Rattle.std.proofs.Common.{◌≡◌, None, Some, ap, eqb, sym, ◌∙◌}
use Rattle.std.proofs.lemmas.Result.{IfOk-weaker}
use Rattle.list_machine.specs.declared.context.ContextStore.{ContextStore}
use Rattle.list_machine.specs.State.{Context}
use Rattle.list_machine.specs.Step.{search_reply}
use Rattle.list_machine.specs.Seen.Stores.{IsSmall, context_seen, reply_at, view_seen}
use Rattle.list_machine.proofs.Moves.{find_All}
use Rattle.list_machine.proofs.StoreLemmas.{All-from_map}
use Rattle.list_machine.proofs.ContextLemmas.{context_of-is, reply_live, reply_over}
use Rattle.list_machine.proofs.steps.searching.search_live.Goals as goal

pub returns-in_default : goal.returns-in_default
returns-in_default c =
    sym (ap (λ found. reply_at c.args.moment c.args.request.now found) (context_of-is c.args.number c.args.contexts.now None c.in_default.ensures))

pub search_context-requires-clause-small : goal.search_context-requires-clause-small
search_context-requires-clause-small c =
    let all = All-from_map (λ (context : Context). IsSmall context.view) context_seen c.args.contexts.now c.requires.small in
    find_All (λ (context : ContextStore). IsSmall (view_seen context)) (λ (context : ContextStore). eqb context.number c.args.number) c.args.contexts.now c.in-Some.context.now all
    (sym c.in-Some.ensures)

pub returns-then-is_live : goal.returns-then-is_live
returns-then-is_live c =
    let context = c.in-Some.context.now in
    let request = c.args.request.now in
    IfOk-weaker c.search_context.result (λ reply. reply ≡ search_reply (view_seen context) request) _
    (λ reply is.
    reply_live c.args.moment request context reply (sym c.is_live.ensures ∙ c.if-is_live.true) is
    ∙ sym (ap (λ found. reply_at c.args.moment request found) (context_of-is c.args.number c.args.contexts.now (Some context) c.in-Some.ensures)))
    c.search_context.ensures

pub returns-else-is_live : goal.returns-else-is_live
returns-else-is_live c =
    let context = c.in-Some.context.now in
    reply_over c.args.moment c.args.request.now context (sym c.is_live.ensures ∙ c.if-is_live.false)
    ∙ sym (ap (λ found. reply_at c.args.moment c.args.request.now found) (context_of-is c.args.number c.args.contexts.now (Some context) c.in-Some.ensures))
