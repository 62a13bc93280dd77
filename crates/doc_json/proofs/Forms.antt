-- How the members of an object are counted.
use Rattle.std.proofs.Common.{◌≡◌, suc, List, [], ◌∷◌, length, refl, ap}
use Rattle.std.specs.Prelude.{String}
use Rattle.std.specs.declared.alloc.Global.{Global}
use Rattle.serde_json.specs.declared.value.Value.{Value}
use Rattle.serde_json.specs.View.{members_view}
use Rattle.doc_json.specs.Json.{count_of}

-- an object has as many members as entries
pub count_members : (entries : List (String Global × Value)) → count_of (members_view entries) ≡ length entries
count_members [] = refl
count_members (entry ∷ entries) = ap suc (count_members entries)
