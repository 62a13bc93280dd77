use Rattle.std.proofs.Common.{◌≡◌, ◌++◌, ◌∷◌, [], ◌+◌, ◌<◌, List, length, ap, sym, ◌∙◌, arith, length-append}
use Rattle.std.proofs.lemmas.Bool.{leb-false}
use Rattle.es_types.specs.declared.row.Op.{Op}
use Rattle.list_machine.specs.Rows.{apply_all, has_id}
use Rattle.list_machine.specs.Step.{is_full}
use Rattle.list_machine.specs.Seen.Standing.{stands_after}
use Rattle.es_core.proofs.StandingLemmas.{has_id-push}
use Rattle.es_core.proofs.shard.Shard.append.Goals as goal

pub invariant_of-self-2 : goal.invariant_of-self-2
invariant_of-self-2 c =
    let shard = c.self.inside in
    let pushed : c.push_reserved.new.self.items ≡ shard.pending.items ++ c.args.op ∷ [] = cc (c.push_reserved.ensures.items, c.in_ok-reserve.ensures.items) in
    let room : length shard.rows.items + length shard.pending.items < 2147483647 = leb-false 2147483647 _ (ap is_full c.self.view_is ∙ c.requires) in (
      λ id.
          c.in_ok-wrote.ensures.after id
          ∙ ap (stands_after c.args.op id) (c.self.invariant.0 id)
          ∙ sym (has_id-push shard.rows.items shard.base shard.pending.items c.args.op id)
          ∙ ap (λ (ops : List Op). has_id id (apply_all shard.rows.items shard.base ops)) (sym pushed),
      omega (arith, room, ap length pushed, length-append shard.pending.items (c.args.op ∷ [])),
    )
