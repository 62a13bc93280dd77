-- Keys of two rows that compare equal are of one place.
use Rattle.std.proofs.Common.{◌≡◌, ℕ, pos, Bool, true, false, not, List, [], ◌∷◌, Ordering, Less, Equal, Greater, int_cmp, inl, inr, refl, sym, ◌∙◌}
use Rattle.std.specs.Ordering.{ordering_then}
use Rattle.std.proofs.lemmas.Bool.{or_cases, or_right}
use Rattle.std.proofs.lemmas.Cmp.{int_ranked}
use Rattle.std.proofs.lemmas.List.Folds.{list_any-append}
use Rattle.es_types.specs.declared.mapping.Field.{Field}
use Rattle.es_types.specs.declared.row.Value.{Value}
use Rattle.es_sort.specs.declared.sort.SortBy.{SortBy}
use Rattle.es_sort.specs.declared.sort.SortBy.TheVariants as by
use Rattle.es_sort.specs.declared.sort.SortKey.{SortKey}
use Rattle.es_sort.specs.declared.sort.SortSpec.{SortSpec}
use Rattle.es_sort.specs.Keys.{all_keys, full_key, is_place, lists_place, place_key, value_by, values_by, with_place}
use Rattle.es_sort.specs.Orders.{compare, turned, value_order, values_order}

both_equal : (order rest : Ordering) → ordering_then order rest ≡ Equal → (order ≡ Equal) × (rest ≡ Equal)
both_equal Less rest equal = cc
both_equal Equal rest equal = (refl, equal)
both_equal Greater rest equal = cc

turned_equal : (down : Bool) (order : Ordering) → turned down order ≡ Equal → order ≡ Equal
turned_equal false order equal = equal
turned_equal true Less equal = cc
turned_equal true Equal equal = refl
turned_equal true Greater equal = cc

same_number : (m n : ℕ) → int_cmp (pos m) (pos n) ≡ Equal → m ≡ n
same_number m n equal = let same : pos m ≡ pos n = int_ranked (pos m) (pos n) Equal (sym equal) in cc

module _ (mapping : List Field) (a b : List Value) (m n : ℕ) where
  same_by_place : (by : SortBy) (down missing_first : Bool) → is_place by ≡ true → value_order down missing_first (value_by mapping a m by) (value_by mapping b n by) ≡ Equal → m ≡ n
  same_by_place (by.Field name) down missing_first is equal = cc
  same_by_place by.Place down missing_first is equal = same_number m n (turned_equal down (int_cmp (pos m) (pos n)) equal)

  same_place : (keys : List SortKey) → lists_place keys ≡ true → values_order keys (values_by mapping a m keys) (values_by mapping b n keys) ≡ Equal → m ≡ n
  same_place [] listed equal = cc
  same_place (key ∷ keys) listed equal =
      let parts = both_equal (value_order key.down key.missing_first (value_by mapping a m key.by) (value_by mapping b n key.by)) _ equal in
      elim (or_cases (is_place key.by) (lists_place keys) listed) [
        | inl first ↦ same_by_place key.by key.down key.missing_first first parts.0
        | inr later ↦ same_place keys later parts.1
      ]

place_listed : (keys : List SortKey) (listed : Bool) → lists_place keys ≡ listed → lists_place (with_place (not listed) keys) ≡ true
place_listed keys true is = is
place_listed keys false is = list_any-append (λ (key : SortKey). is_place key.by) keys (place_key ∷ []) ∙ or_right (lists_place keys) true refl

-- each full key has the number of its place
pub apart : (mapping : List Field) (sort : SortSpec) (a b : List Value) (m n : ℕ) → compare sort (full_key mapping sort a m) (full_key mapping sort b n) ≡ Equal → m ≡ n
apart mapping sort a b m n equal = same_place mapping a b m n (all_keys sort) (place_listed sort.keys (lists_place sort.keys) refl) equal
