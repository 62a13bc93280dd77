use Rattle.std.proofs.Common.{◌≡◌, ◌+◌, ◌-◌, ◌≤◌, List, length, take, drop, ap, ap₂, sym, ◌∙◌, arith, length-drop, length-take}
use Rattle.es_types.specs.declared.row.Op.{Op}
use Rattle.es_types.specs.declared.row.Row.{Row}
use Rattle.list_machine.specs.Rows.{apply_all, has_id, last_number}
use Rattle.list_machine.proofs.ShardLemmas.{length-apply_all}
use Rattle.es_core.proofs.StandingLemmas.{apply_all-split}
use Rattle.es_core.proofs.shard.Shard.publish.Goals as goal

pub invariant_of-self-2 : goal.invariant_of-self-2
invariant_of-self-2 c =
    let shard = c.self.inside in
    let n = c.args.upto - shard.base in
    let ops = shard.pending.items in
    let seen : last_number c.args.self.now ≡ shard.base + length ops = ap last_number (sym c.self.view_is) in
    let within : n ≤ length ops = omega arith in
    let is : c.args.upto ≡ shard.base + n = omega arith in
    let rows : c.apply_ops.new.rows.items ≡ apply_all shard.rows.items shard.base (take n ops) = grind arith in
    let left : c.replace-ops.new.dest.items ≡ drop n ops = grind arith in (
      λ id.
          c.self.invariant.0 id
          ∙ ap (has_id id) (sym (apply_all-split shard.rows.items shard.base c.args.upto n ops within is)
          ∙ ap₂ (λ (them : List Row) (waiting : List Op). apply_all them c.args.upto waiting) (sym rows) (sym left)),
      omega (arith, c.self.invariant.1, ap length rows, ap length left, length-apply_all (take n ops) shard.rows.items shard.base, length-take n ops, length-drop n ops),
    )
