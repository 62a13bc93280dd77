-- Keys and values that are gone through together, from the first.
use Rattle.std.proofs.Common.{◌≡◌, ℕ, ◌+◌, ◌<◌, ◌≤◌, Bool, true, false, List, [], ◌∷◌, length, get_or, drop, slice_get, Option, Some, None, MatchOption, Bor, Ordering, Less, Equal, Greater, is_eq, suc, zero, refl, sym, ap, ◌∙◌, drop-drop}
use Rattle.std.specs.Option.{option_copied}
use Rattle.std.specs.Ordering.{ordering_then}
use Rattle.std.proofs.lemmas.List.{drop_all, drop_more}
use Rattle.std.proofs.lemmas.Option.{slice_get-get_or, slice_get_past}
use Rattle.es_types.specs.declared.mapping.Field.{Field}
use Rattle.es_types.specs.declared.row.Value.{Value}
use Rattle.es_sort.specs.declared.sort.SortKey.{SortKey}
use Rattle.es_sort.specs.Fits.{take_each}
use Rattle.es_sort.specs.Keys.{with_place}
use Rattle.es_sort.specs.Orders.{order_at, values_order}

-- what `get` gives at a place
pub copied_is : (xs : List Value) (at : ℕ) (got : Option (Bor Value)) → MatchOption got (length xs ≤ at) (λ x. (at < length xs) × ((d : Value) → x.now ≡ get_or xs at d)) → option_copied got ≡ slice_get xs at
copied_is xs at None past = sym (slice_get_past xs at past)
copied_is xs at (Some x) within = ap Some (within.1 x.now) ∙ sym (slice_get-get_or xs at x.now within.0)

slice_get-drop : (at : ℕ) (xs : List Value) → slice_get (drop at xs) 0 ≡ slice_get xs at
slice_get-drop zero xs = refl
slice_get-drop (suc at) [] = refl
slice_get-drop (suc at) (x ∷ xs) = slice_get-drop at xs

with_place-more : (place : Bool) (key : SortKey) (keys : List SortKey) → with_place place (key ∷ keys) ≡ key ∷ with_place place keys
with_place-more true key keys = refl
with_place-more false key keys = refl

pub both_end : (keys : List SortKey) → values_order keys [] [] ≡ Equal
both_end [] = refl
both_end (key ∷ keys) = refl

-- the first values decide, and then the rest
first_decides : (key : SortKey) (keys : List SortKey) (xs ys : List Value) → values_order (key ∷ keys) xs ys ≡ ordering_then (order_at key.down key.missing_first (slice_get xs 0) (slice_get ys 0)) (values_order keys (drop 1 xs) (drop 1 ys))
first_decides key keys [] [] = sym (both_end keys)
first_decides key keys [] (y ∷ ys) = refl
first_decides key keys (x ∷ xs) [] = refl
first_decides key keys (x ∷ xs) (y ∷ ys) = refl

then_goes_on : (order rest : Ordering) → is_eq order ≡ true → ordering_then order rest ≡ rest
then_goes_on Less rest is = cc
then_goes_on Equal rest is = refl
then_goes_on Greater rest is = cc

pub then_nothing : (order : Ordering) → ordering_then order Equal ≡ order
then_nothing Less = refl
then_nothing Equal = refl
then_nothing Greater = refl

-- the first values at a place decide, and then those after it
values_at : (key : SortKey) (keys : List SortKey) (xs ys : List Value) (at : ℕ) → values_order (key ∷ keys) (drop at xs) (drop at ys) ≡ ordering_then (order_at key.down key.missing_first (slice_get xs at) (slice_get ys at)) (values_order keys (drop (at + 1) xs) (drop (at + 1) ys))
values_at key keys xs ys at = rw (← slice_get-drop at xs, ← slice_get-drop at ys, ← drop-drop 1 at xs, ← drop-drop 1 at ys) (first_decides key keys (drop at xs) (drop at ys))

module _ (place : Bool) (keys : List SortKey) (at : ℕ) (key : SortKey) (within : at < length keys) (read : key ≡ get_or keys at key) where
  -- the keys from one on
  key_then_rest : with_place place (drop at keys) ≡ key ∷ with_place place (drop (at + 1) keys)
  key_then_rest = rw (drop_more keys at key within, ← read) (with_place-more place key (drop (at + 1) keys))

  key_decides : (xs ys : List Value) → values_order (with_place place (drop at keys)) (drop at xs) (drop at ys) ≡ ordering_then (order_at key.down key.missing_first (slice_get xs at) (slice_get ys at)) (values_order (with_place place (drop (at + 1) keys)) (drop (at + 1) xs) (drop (at + 1) ys))
  key_decides xs ys = rw key_then_rest (values_at key (with_place place (drop (at + 1) keys)) xs ys at)

  -- a key that doesn't tell two lists apart
  pub key_passed : (xs ys : List Value) (x y : Option Value) (order : Ordering) → x ≡ slice_get xs at → y ≡ slice_get ys at → order ≡ order_at key.down key.missing_first x y → is_eq order ≡ true → values_order (with_place place (drop at keys)) (drop at xs) (drop at ys) ≡ values_order (with_place place (drop (at + 1) keys)) (drop (at + 1) xs) (drop (at + 1) ys)
  key_passed xs ys x y order x_is y_is order_is equal = key_decides xs ys ∙ (rw (← x_is, ← y_is, ← order_is) (then_goes_on order _ equal))

  module _ (mapping : List Field) (values : List Value) where
    pub none_ends : length values ≤ at → take_each mapping (with_place place (drop at keys)) (drop at values) ≡ false
    none_ends past = rw (key_then_rest, drop_all at values past) refl
