-- What stands inside a value nests less deep.
use Rattle.std.proofs.Common.{◌≡◌, ℕ, zero, suc, ◌<◌, ◌≤◌, List, [], ◌∷◌, length, get_or, ap, arith}
use Rattle.serde_json.specs.declared.value.Value.{Value}
use Rattle.serde_json.specs.Data.{depth, items_depth}
use Rattle.serde_json.specs.View.{items_view, view}

-- an item of a list
pub item_depth : (values : List Value) (i : ℕ) (value : Value) → i < length values → value ≡ get_or values i value → depth (view value) ≤ items_depth (items_view values)
item_depth [] i value within is = absurd (omega arith)
item_depth (first ∷ values) zero value within is =
    let deep : depth (view value) ≡ depth (view first) = ap (λ v. depth (view v)) is in
    omega arith
item_depth (first ∷ values) (suc i) value within is = omega (arith, item_depth values i value (omega arith) is)
