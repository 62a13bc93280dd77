-- The fields of properties: how many there are, their order, and which are a mapping.
use Rattle.std.proofs.Common.{◌≡◌, suc, ◌<◌, ◌≤◌, ◌&&◌, nat_le, Bool, true, false, List, [], ◌∷◌, length, Some, None, string_bytes, string_cmp, Less, refl, ap, arith}
use Rattle.std.specs.Prelude.{String}
use Rattle.std.specs.declared.alloc.Global.{Global}
use Rattle.std.specs.Cmp.Lexicographic.{slice_cmp}
use Rattle.std.specs.List.Sorted.{IsStrictlySortedBy}
use Rattle.std.specs.Map.{keys_of}
use Rattle.std.specs.Ordering.{nat_cmp}
use Rattle.serde_json.specs.declared.value.Value.{Value}
use Rattle.serde_json.specs.View.{members_view}
use Rattle.std.proofs.lemmas.Bool.Decides.{nat_tests}
use Rattle.es_types.specs.Fields.{is_mapping, names_rise}
use Rattle.doc_json.specs.Json.{count_of}
use Rattle.doc_json.specs.Indexes.{are_named, fields_of, mapping_of}
use Rattle.doc_json.proofs.Forms.{count_members}

never : (b : Bool) → (b && false) ≡ false
never true = refl
never false = refl

-- there are as many as entries
pub count_fields : (entries : List (String Global × Value)) → length (fields_of (members_view entries)) ≡ length entries
count_fields [] = refl
count_fields (entry ∷ entries) = ap suc (count_fields entries)

-- their names are in order where the keys are
pub fields_rise : (entries : List (String Global × Value)) → IsStrictlySortedBy string_cmp (keys_of entries) → names_rise (fields_of (members_view entries)) ≡ true
unfolding IsStrictlySortedBy
fields_rise [] ordered = refl
fields_rise (entry ∷ []) ordered = refl
fields_rise (entry ∷ next ∷ entries) ordered =
    let less : slice_cmp nat_cmp (string_bytes entry.0) (string_bytes next.0) ≡ Less = ordered.0.0 in
    rw less (fields_rise (next ∷ entries) ordered.1)

-- more than may be are no mapping
pub too_many : (entries : List (String Global × Value)) → 1000 < length entries → mapping_of (members_view entries) ≡ None
too_many entries many =
    let over : nat_le (count_of (members_view entries)) 1000 ≡ false = rw (count_members entries) (grind (arith, nat_tests)) in
    rw over

-- nor are those of which one has a bad name
pub badly_named : (entries : List (String Global × Value)) → are_named (fields_of (members_view entries)) ≡ false → mapping_of (members_view entries) ≡ None
badly_named entries bad = rw (bad, never (nat_le (count_of (members_view entries)) 1000))

-- all others are
pub mapped_fields : (entries : List (String Global × Value)) → length entries ≤ 1000 → are_named (fields_of (members_view entries)) ≡ true → mapping_of (members_view entries) ≡ Some (fields_of (members_view entries))
mapped_fields entries few named =
    let within : nat_le (count_of (members_view entries)) 1000 ≡ true = rw (count_members entries) (grind (arith, nat_tests)) in
    rw (within, named)

-- and these are taken as a mapping
pub is_a_mapping : (entries : List (String Global × Value)) → length entries ≤ 1000 → IsStrictlySortedBy string_cmp (keys_of entries) → is_mapping (fields_of (members_view entries)) ≡ true
is_a_mapping entries few ordered =
    let within : nat_le (length (fields_of (members_view entries))) 1000 ≡ true = rw (count_fields entries) (grind (arith, nat_tests)) in
    rw (within, fields_rise entries ordered)
