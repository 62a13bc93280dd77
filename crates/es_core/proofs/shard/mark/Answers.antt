use Rattle.std.proofs.Common.{◌≡◌, false, List, ℕ, bytes_eq, not, ◌&&◌, ap, sym, ◌∙◌}
use Rattle.std.specs.BTreeSet.{contains_text}
use Rattle.std.proofs.lemmas.Map.Text.{btree_set_updates_text}
use Rattle.es_types.specs.declared.row.Op.{Op}
use Rattle.list_machine.specs.Seen.Standing.{stands_after}
use Rattle.es_core.proofs.StandingLemmas.{cond-and}
use Rattle.es_core.proofs.shard.mark.Goals as goal

pub returns-then-remove-clause-after : goal.returns-then-remove-clause-after
returns-then-remove-clause-after c id =
    let is : c.as_str.result.now ≡ c.in-Remove.id = cc (c.as_str.ensures, c.text.ensures.value) in
    btree_set_updates_text c.as_str.result.now c.args.standing.now c.remove.new.self false c.remove.ensures.updates id
    ∙ cond-and (bytes_eq c.as_str.result.now id) (contains_text c.args.standing.now id)
    ∙ ap (λ (removed : List ℕ). not (bytes_eq removed id) && contains_text c.args.standing.now id) is
    ∙ ap (λ (op : Op). stands_after op id (contains_text c.args.standing.now id)) (sym c.in-Remove.is)
