use Rattle.std.proofs.Common.{◌≡◌, Bool, List, Option, Some, ℕ, ◌+◌, ap, arith, cond, subst, subst₂, sym, ◌∙◌}
use Rattle.std.specs.Arc.{arc_value}
use Rattle.std.specs.Option.{option_map}
use Rattle.context_book.specs.Books.{Book}
use Rattle.list_machine.specs.declared.event.Reply.{Reply}
use Rattle.list_machine.specs.State.{Context, index_of, view_of}
use Rattle.list_machine.specs.Views.{View}
use Rattle.es_core.specs.declared.node.Core.{Core}
use Rattle.es_core.specs.Contexts.{LeavesOpened, contexts_seen}
use Rattle.es_core.proofs.StepLemmas.{open_steps}
use Rattle.es_core.proofs.node.Core.open_pit.Goals as goal
use Rattle.es_core.proofs.node.Core.open_pit.Goals.{then-is_opened, else-is_opened}

pub returns-clause-steps : goal.returns-clause-steps
returns-clause-steps c =
    let core = c.args.self.now in
    let reply = c.in_ok-reply.reply in
    let next : Bool → ℕ = λ b. cond b (core.next + 1) core.next in
    let paired : Book → List Context × Reply = λ book. (contexts_seen book.contexts, reply) in
    open_steps core c.if-is_opened.self c.args.moment c.args.name.now c.args.keep.now (arc_value c.in-Some.view) (c.millis.result + c.millis-2.result) reply
    (sym (ap (option_map arc_value) c.in-Some.is) ∙ c.in_ok-view.ensures.view) (omega arith)
    (record {
      limits_are = elim c.if-is_opened.branch [ then-is_opened w ↦ ap (λ (it : Core). it.limits) w.self-is | else-is_opened w ↦ ap (λ (it : Core). it.limits) w.self-is ];
      limited = core.limited;
      next = elim c.if-is_opened.branch [
        | then-is_opened w ↦ ap (λ (it : Core). it.next) w.self-is ∙ ap next (sym (sym c.is_opened.ensures ∙ w.if-is_opened.true))
        | else-is_opened w ↦ ap (λ (it : Core). it.next) w.self-is ∙ ap next (sym (sym c.is_opened.ensures ∙ w.if-is_opened.false))
      ];
      indexes = elim c.if-is_opened.branch [
        | then-is_opened w ↦ ap (λ (it : Core). it.catalog) w.self-is ∙ c.view.ensures.same
        | else-is_opened w ↦ ap (λ (it : Core). it.catalog) w.self-is ∙ c.view.ensures.same
      ];
      contexts = elim c.if-is_opened.branch [
        | then-is_opened w ↦ c.in_ok-reply.ensures.opened ∙ ap paired (sym (ap (λ (it : Core). it.book) w.self-is))
        | else-is_opened w ↦ c.in_ok-reply.ensures.opened ∙ ap paired (sym (ap (λ (it : Core). it.book) w.self-is))
      ];
    })

pub returns-clause-added : goal.returns-clause-added
returns-clause-added c =
    let core = c.args.self.now in
    let reply = c.in_ok-reply.reply in
    let view : Option View = option_map view_of (index_of c.args.name.now core.catalog) in
    let there : Some (arc_value c.in-Some.view) ≡ view = sym (ap (option_map arc_value) c.in-Some.is) ∙ c.in_ok-view.ensures.view in
    let expiry : c.millis.result + c.millis-2.result ≡ c.args.moment + c.args.keep.now = omega arith in
    let made : LeavesOpened view (c.args.moment + c.args.keep.now) core.book.contexts c.open.new.book.contexts reply =
    subst₂ (λ (o : Option View) (at : ℕ). LeavesOpened o at core.book.contexts c.open.new.book.contexts reply) there expiry c.in_ok-reply.ensures.added in
    elim c.if-is_opened.branch [
      | then-is_opened w ↦ subst (λ (it : Core). LeavesOpened view (c.args.moment + c.args.keep.now) core.book.contexts it.book.contexts reply) (sym w.self-is) made
      | else-is_opened w ↦ subst (λ (it : Core). LeavesOpened view (c.args.moment + c.args.keep.now) core.book.contexts it.book.contexts reply) (sym w.self-is) made
    ]
