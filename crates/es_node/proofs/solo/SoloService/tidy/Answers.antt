-- A Quiet more, or none.
use Rattle.std.proofs.Common.{arith}
use Rattle.es_node.specs.Solo.{IsRunning, entries}
use Rattle.es_node.proofs.Journals.{entries_count, reaps, rests_on, rests_once}
use Rattle.es_node.proofs.solo.SoloService.tidy.Goals as goal

pub invariant_of-self : goal.invariant_of-self
invariant_of-self c =
    let s = c.self.inside in
    let of = c.reap.ensures in
    rests_on s.limits c.args.moment s.core c.reap.new.core (entries s.journal.items) (entries c.reap.new.journal.items) c.reap.result c.self.invariant
    (omega (arith, c.if-len-self.false, c.len.ensures, entries_count s.journal.items))
    of.rests of.journal of.core_kept of.journal_kept

pub returns-clause-called : goal.returns-clause-called
returns-clause-called c =
    let s = c.self.inside in
    let of = c.reap.ensures in
    rw (← c.self.view_is) (rests_once c.args.moment (entries s.journal.items) (entries c.reap.new.journal.items) c.reap.result of.journal of.journal_kept)

pub returns-clause-kept : goal.returns-clause-kept
returns-clause-kept c =
    let s = c.self.inside in
    let of = c.reap.ensures in
    let r : IsRunning s.limits c.reap.new.core (entries c.reap.new.journal.items)
    = rests_on s.limits c.args.moment s.core c.reap.new.core (entries s.journal.items) (entries c.reap.new.journal.items) c.reap.result
    c.self.invariant
    (omega (arith, c.if-len-self.false, c.len.ensures, entries_count s.journal.items)) of.rests of.journal of.core_kept of.journal_kept in
    r.kept

pub returns-clause-reaped : goal.returns-clause-reaped
returns-clause-reaped c =
    let s = c.self.inside in
    let of = c.reap.ensures in
    reaps s.limits c.args.moment s.core c.reap.new.core (entries s.journal.items) (entries c.reap.new.journal.items) c.reap.result c.self.invariant
    (omega (arith, c.if-len-self.false, c.len.ensures, entries_count s.journal.items)) of.rests of.left of.journal
