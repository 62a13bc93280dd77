use Rattle.std.proofs.Common.{◌≡◌, ◌++◌, ◌∷◌, [], ℕ, List, None, Some, cond, length, ap, ap₂, bytes_eq, subst, sym, ◌∙◌}
use Rattle.std.specs.BTreeMap.{get_by_text}
use Rattle.std.specs.String.{string_bytes}
use Rattle.std.proofs.lemmas.Map.Text.{btree_map_updates_text}
use Rattle.list_machine.specs.State.{index_of}
use Rattle.es_core.specs.declared.index.Index.{Index}
use Rattle.es_core.specs.Indexes.{Placed, indexes_seen}
use Rattle.es_core.proofs.IndexLemmas.{placed_push}
use Rattle.es_core.proofs.catalog.Catalog.put_down.Goals as goal

pub invariant_of-self-2 : goal.invariant_of-self-2
invariant_of-self-2 c =
    let inside = c.self.inside in
    let named : string_bytes c.in_ok-name.name ≡ c.args.index.name = cc (c.in_ok-name.ensures.ok, c.as_str.ensures, c.text.ensures.value) in
    let many : c.len.result ≡ length inside.indexes.items = cc (c.len.ensures, c.in_ok-reserve.ensures.items) in
    let pushed : c.push_reserved.new.self.items ≡ inside.indexes.items ++ c.args.index ∷ [] = cc (c.push_reserved.ensures.items, c.in_ok-reserve.ensures.items) in
    let free : index_of c.args.index.name (indexes_seen inside.indexes.items) ≡ None = ap (index_of c.args.index.name) c.self.view_is ∙ c.requires in
    subst (λ (items : List Index). Placed c.insert.new.self items) (sym pushed)
    (placed_push inside.places c.insert.new.self inside.indexes.items c.args.index c.self.invariant free
    (λ name. btree_map_updates_text (string_bytes c.in_ok-name.name) inside.places c.insert.new.self (Some c.len.result) c.in_ok-insert.ensures.updates name
    ∙ ap₂ (λ (key : List ℕ) (place : ℕ). cond (bytes_eq key name) (Some place) (get_by_text inside.places name)) named many))
