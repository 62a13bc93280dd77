use Rattle.std.proofs.Common.{◌≡◌, ℕ, List, true, bytes_eq, ◌||◌, ap, ◌∙◌}
use Rattle.std.specs.BTreeSet.{contains_text}
use Rattle.std.specs.String.{string_bytes}
use Rattle.std.proofs.lemmas.Map.Text.{btree_set_updates_text}
use Rattle.list_machine.proofs.RowLemmas.{cond-or}
use Rattle.list_machine.proofs.steps.written.enter.Goals as goal

pub returns-clause-after : goal.returns-clause-after
returns-clause-after c other =
    let is : string_bytes c.in_ok-from_str.field-0 ≡ c.args.id.now = cc (c.in_ok-from_str.ensures.ok, c.as_str-text.ensures, c.text.ensures.value) in
    btree_set_updates_text (string_bytes c.in_ok-from_str.field-0) c.args.ids.now c.insert.new.self true c.in_ok-insert.ensures.updates other
    ∙ cond-or (bytes_eq (string_bytes c.in_ok-from_str.field-0) other) (contains_text c.args.ids.now other)
    ∙ ap (λ (id : List ℕ). bytes_eq id other || contains_text c.args.ids.now other) is
