-- Which objects have a single member.
use Rattle.std.proofs.Common.{◌≡◌, List, [], ◌∷◌, length, Some, None, string_bytes, refl, ap, arith}
use Rattle.std.specs.List.{slice_get}
use Rattle.std.specs.Prelude.{String}
use Rattle.std.specs.declared.alloc.Global.{Global}
use Rattle.serde_json.specs.declared.value.Value.{Value}
use Rattle.serde_json.specs.View.{members_view, view}
use Rattle.search_json.specs.Values.{only}

-- an object with another number of entries has no only member
pub not_one : (entries : List (String Global × Value)) → (length entries ≡ 1 → ⊥) → only (members_view entries) ≡ None
not_one [] other = refl
not_one (entry ∷ []) other = absurd (other refl)
not_one (entry ∷ next ∷ entries) other = refl

-- and one of one entry has that
pub the_one : (entries : List (String Global × Value)) (entry : String Global × Value) → length entries ≡ 1 → slice_get entries 0 ≡ Some entry → only (members_view entries) ≡ Some (string_bytes entry.0, view entry.1)
the_one [] entry one first = absurd (omega arith)
the_one (only ∷ []) entry one first =
    let same : only ≡ entry = cc in
    ap (λ e. Some (string_bytes e.0, view e.1)) same
the_one (only ∷ next ∷ entries) entry one first = absurd (omega arith)
