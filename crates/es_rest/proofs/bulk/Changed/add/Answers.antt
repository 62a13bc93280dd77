-- The set has the names that the list has.
use Rattle.std.proofs.Common.{◌≡◌, ℕ, List, [], ◌∷◌, ◌++◌, true, bytes_eq, ◌||◌, ap, sym, ◌∙◌}
use Rattle.std.specs.BTreeSet.{contains_text}
use Rattle.std.specs.String.{string_bytes}
use Rattle.std.proofs.lemmas.Map.Text.{btree_set_updates_text}
use Rattle.es_rest.specs.Items.{has_name}
use Rattle.es_rest.proofs.Bulks.{cond-or, has_name-push}
use Rattle.es_rest.proofs.bulk.Changed.add.Goals as goal

pub invariant_of-self-2 : goal.invariant_of-self-2
invariant_of-self-2 c name =
    let key = string_bytes c.in_ok-key.key in
    let names = c.self.inside.names.items in
    let more = c.in-Ok.name in
    let is : key ≡ more = cc (c.in_ok-key.ensures.ok, c.as_str-text.ensures, c.in-Ok.ensures.0, c.in_ok-copy.ensures) in
    btree_set_updates_text key c.self.inside.known c.insert.new.self true c.in_ok-insert.ensures.updates name
    ∙ cond-or (bytes_eq key name) (contains_text c.self.inside.known name)
    ∙ ap (λ b. bytes_eq key name || b) (c.self.invariant name)
    ∙ ap (λ (n : List ℕ). bytes_eq n name || has_name name names) is
    ∙ sym (has_name-push name more names)
    ∙ ap (has_name name) (sym (c.push_reserved.ensures.items ∙ ap (λ (l : List (List ℕ)). l ++ more ∷ []) c.in_ok-reserve.ensures.items))
