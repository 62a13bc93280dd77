-- The view of a pass, as a search takes it.
use Rattle.std.proofs.Common.{◌≡◌, ℕ, List, ap, ◌∙◌}
use Rattle.es_types.specs.declared.mapping.Field.{Field}
use Rattle.es_types.specs.declared.row.Row.{Row}
use Rattle.list_machine.specs.Seen.Stores.{view_over}
use Rattle.list_machine.specs.Views.{View}

-- a view is what its parts are
pub view_is : (view : View) (index : List ℕ) (mapping : List Field) (shards : List (List Row)) → index ≡ view.index → mapping ≡ view.mapping → shards ≡ view.shards
    → view_over index mapping shards ≡ view
view_is view index mapping shards named mapped rows =
    ap (λ (it : List ℕ). view_over it mapping shards) named ∙ ap (λ (it : List Field). view_over view.index it shards) mapped ∙ ap (view_over view.index view.mapping) rows
