use Rattle.std.proofs.Common.{List, ◌++◌, [], ◌+◌, ap, sym, ◌∙◌, arith}
use Rattle.std.proofs.lemmas.List.{append_assoc}
use Rattle.es_types.specs.declared.row.Op.{Op}
use Rattle.es_types.specs.declared.row.Row.{Row}
use Rattle.list_machine.specs.Rows.{apply, apply_all}
use Rattle.list_machine.proofs.ApplyLemmas.{apply_all-last, apply_all-not_last, are_last-at}
use Rattle.list_machine.proofs.steps.publishing.put_lasts.Goals as goal

pub loop-op-preserved-then-is_last : goal.loop-op-preserved-then-is_last
loop-op-preserved-then-is_last c =
    let op = c.in-Some.op in
    let rest = c.next.new.self.rest.items in
    let rows = c.loop-op.rows.items in
    let at = c.args.base + c.loop-op.at in
    let number = c.args.base + (c.loop-op.at + 1) in
    let is = c.in-Some.ensures.steps in
    let noted = are_last-at c.args.last.now c.loop-op.at op rest (rw is.0 at c.loop-op.invariant.last) in
    let made = apply_all-last op rest at number (omega arith) (sym noted.0 ∙ c.if-is_last.true) in
    record {
      rows =
          ap (λ (them : List Row). them ++ apply_all [] number rest) c.put.ensures.items
          ∙ append_assoc rows (apply [] number op) (apply_all [] number rest)
          ∙ ap (λ (them : List Row). rows ++ them) (sym made)
          ∙ ap (λ (ops : List Op). rows ++ apply_all [] at ops) (sym is.0)
          ∙ c.loop-op.invariant.rows;
      last = noted.1;
      numbers = omega arith;
      room = omega arith;
    }

pub loop-op-preserved-else-is_last : goal.loop-op-preserved-else-is_last
loop-op-preserved-else-is_last c =
    let op = c.in-Some.op in
    let rest = c.next.new.self.rest.items in
    let rows = c.loop-op.rows.items in
    let at = c.args.base + c.loop-op.at in
    let number = c.args.base + (c.loop-op.at + 1) in
    let is = c.in-Some.ensures.steps in
    let noted = are_last-at c.args.last.now c.loop-op.at op rest (rw is.0 at c.loop-op.invariant.last) in
    let made = apply_all-not_last op rest at number (omega arith) (sym noted.0 ∙ c.if-is_last.false) in
    record {
      rows =
          ap (λ (them : List Row). rows ++ them) (sym made)
          ∙ ap (λ (ops : List Op). rows ++ apply_all [] at ops) (sym is.0)
          ∙ c.loop-op.invariant.rows;
      last = noted.1;
      numbers = omega arith;
      room = omega arith;
    }
