-- A full history, or one entry more.
use Rattle.std.proofs.Common.{subst, arith}
use Rattle.list_machine.specs.declared.event.Reply.TheVariants.{Spent}
use Rattle.list_machine.specs.Serving.{Asked, asked}
use Rattle.es_node.specs.Solo.{Journal, IsRunning, entries}
use Rattle.es_node.proofs.Journals.{answered, entries_count, askable_bounded, askable_object, runs_on, spent}
use Rattle.es_node.proofs.solo.SoloService.ask.Goals as goal

pub returns-then-len-self-clause-asked : goal.returns-then-len-self-clause-asked
returns-then-len-self-clause-asked c =
    let s = c.self.inside in
    let P : Journal → Type 0 = λ j. Asked j.limits 0 4 j.history j.history (asked 0 c.args.moment c.args.event) Spent in
    subst P c.self.view_is
    (spent s.limits c.args.moment c.args.event (entries s.journal.items) c.self.invariant.kept
    (omega (arith, c.if-len-self.true, c.len.ensures, entries_count s.journal.items)))

pub advance-requires-clause-object : goal.advance-requires-clause-object
advance-requires-clause-object c = askable_object _ _ c.args.event c.requires

pub advance-requires-clause-bounded : goal.advance-requires-clause-bounded
advance-requires-clause-bounded c = askable_bounded _ _ c.args.event c.requires

pub invariant_of-self : goal.invariant_of-self
invariant_of-self c =
    let s = c.self.inside in
    runs_on s.limits c.args.moment c.args.event s.core c.advance.new.core (entries s.journal.items) (entries c.advance.new.journal.items)
    c.advance.result c.self.invariant (omega (arith, c.if-len-self.false, c.len.ensures, entries_count s.journal.items))
    (askable_object _ _ c.args.event c.requires) c.advance.ensures.advances c.advance.ensures.journal c.advance.ensures.core_kept
    c.advance.ensures.journal_kept

pub returns-clause-asked : goal.returns-clause-asked
returns-clause-asked c =
    let s = c.self.inside in
    rw (← c.self.view_is)
    (answered s.limits c.args.moment c.args.event s.core c.advance.new.core (entries s.journal.items) (entries c.advance.new.journal.items) c.in_ok-turned.turned
    c.answer.result c.self.invariant (omega (arith, c.if-len-self.false, c.len.ensures, entries_count s.journal.items))
    c.in_ok-turned.ensures.advances c.in_ok-turned.ensures.journal c.answer.ensures)

pub returns-clause-kept : goal.returns-clause-kept
returns-clause-kept c =
    let s = c.self.inside in
    let r : IsRunning s.limits c.advance.new.core (entries c.advance.new.journal.items)
    = runs_on s.limits c.args.moment c.args.event s.core c.advance.new.core (entries s.journal.items) (entries c.advance.new.journal.items)
    c.advance.result c.self.invariant (omega (arith, c.if-len-self.false, c.len.ensures, entries_count s.journal.items))
    (askable_object _ _ c.args.event c.requires) c.advance.ensures.advances c.advance.ensures.journal c.advance.ensures.core_kept
    c.advance.ensures.journal_kept in
    r.kept
