-- What is shown of a place by a sort that shows it: its whole key.
use Rattle.std.proofs.Common.{◌≡◌, Bool, true, false, not, ◌&&◌, ◌||◌, List, Some, Ordering, refl, ap, ◌∙◌}
use Rattle.std.specs.Cmp.{IsTotalOrder}
use Rattle.std.specs.declared.cmp.Ordering.TheVariants.{Less, Equal, Greater}
use Rattle.std.specs.Ordering.{is_gt, is_lt, ordering_reverse}
use Rattle.es_types.specs.declared.row.Value.{Value}
use Rattle.es_sort.specs.declared.sort.Keys.{Keys}
use Rattle.es_sort.specs.declared.sort.SortKey.{SortKey}
use Rattle.es_sort.specs.declared.sort.SortSpec.{SortSpec}
use Rattle.es_sort.specs.Keys.{all_keys, lists_place, shown_keys, values_by, with_place}
use Rattle.es_sort.specs.Orders.{compare, values_order}
use Rattle.list_machine.specs.Pages.{shows_place}
use Rattle.list_machine.specs.Views.{View, Place, comes_before, is_past, key_at, place_number, shown_at}

-- where the place is shown, so is each key
shows_all : (sort : SortSpec) → shows_place sort ≡ true → shown_keys sort ≡ all_keys sort
shows_all sort shows = go sort.show_place (lists_place sort.keys) shows
  where
    go : (show listed : Bool) → (show || listed) ≡ true → with_place (show && not listed) sort.keys ≡ with_place (not listed) sort.keys
    go true listed e = refl
    go false true e = refl
    go false false e = absurd (cc)

-- such values of a place are its key
shown_key : (view : View) (sort : SortSpec) → shows_place sort ≡ true → (place : Place) (after : Keys) → after.values ≡ shown_at view sort place → after ≡ key_at view sort place
shown_key view sort shows place after is =
    let keyed : List Value → Keys = λ values. record { values = values } in
    ap keyed (is ∙ ap (values_by view.mapping place.row.values (place_number place)) (shows_all sort shows))

-- beyond them are the places that it comes before
pub beyond_is : (view : View) (sort : SortSpec) → IsTotalOrder (compare sort) → shows_place sort ≡ true → (place : Place) (after : Keys) → after.values ≡ shown_at view sort place
    → (other : Place) → is_past view sort (Some after) other ≡ comes_before view sort place other
beyond_is view sort total shows place after is other =
    let x = key_at view sort place in
    let y = key_at view sort other in
    ap (λ (keys : List SortKey). is_gt (values_order keys y.values after.values)) (shows_all sort shows)
    ∙ ap (λ (it : Keys). is_gt (compare sort y it)) (shown_key view sort shows place after is)
    ∙ ap is_gt (total.antisymm y x)
    ∙ go (compare sort x y)
  where
    go : (order : Ordering) → is_gt (ordering_reverse order) ≡ is_lt order
    go Less = refl
    go Equal = refl
    go Greater = refl
