-- The order of keys: the first of their values that tells them apart decides.
use Rattle.std.specs.Prelude.{Bool, true, false, List, [], ◌∷◌, Option, Some, None}
use Rattle.std.specs.Cmp.Lexicographic.{slice_cmp}
use Rattle.std.specs.declared.cmp.Ordering.{Ordering}
use Rattle.std.specs.declared.cmp.Ordering.TheVariants.{Less, Equal, Greater}
use Rattle.std.specs.Ordering.{int_cmp, nat_cmp, is_gt, ordering_reverse, ordering_then}
use Rattle.es_types.specs.declared.row.Value.{Value}
use Rattle.es_types.specs.declared.row.Value.TheVariants.{Key, Long, Missing}
use Rattle.es_sort.specs.declared.sort.Keys.{Keys}
use Rattle.es_sort.specs.declared.sort.SortKey.{SortKey}
use Rattle.es_sort.specs.declared.sort.SortSpec.{SortSpec}
use Rattle.es_sort.specs.Keys.{all_keys, shown_keys}

-- a rising order, or a falling one
abbrev pub turned : Bool → Ordering → Ordering
turned false order = order
turned true order = ordering_reverse order

-- where a missing value stands next to one that isn't
abbrev pub of_missing : Bool → Ordering
of_missing true = Less
of_missing false = Greater

-- Two values by one key. Texts are compared by their bytes. No field has both texts and numbers, and where they meet all
-- the same, texts are the lesser ones.
abbrev pub value_order : Bool → Bool → Value → Value → Ordering
value_order down missing_first (Key a) (Key b) = turned down (slice_cmp nat_cmp a b)
value_order down missing_first (Key a) (Long b) = turned down Less
value_order down missing_first (Key a) Missing = ordering_reverse (of_missing missing_first)
value_order down missing_first (Long a) (Key b) = turned down Greater
value_order down missing_first (Long a) (Long b) = turned down (int_cmp a b)
value_order down missing_first (Long a) Missing = ordering_reverse (of_missing missing_first)
value_order down missing_first Missing (Key b) = of_missing missing_first
value_order down missing_first Missing (Long b) = of_missing missing_first
value_order down missing_first Missing Missing = Equal

-- the same where one may be there and the other not: what is not there stands first
abbrev pub order_at : Bool → Bool → Option Value → Option Value → Ordering
order_at down missing_first None None = Equal
order_at down missing_first None (Some b) = Less
order_at down missing_first (Some a) None = Greater
order_at down missing_first (Some a) (Some b) = value_order down missing_first a b

-- two lists of values by these keys; what goes on after the keys is not looked at, and what ends before them stands first
abbrev pub values_order : List SortKey → List Value → List Value → Ordering
values_order [] xs ys = Equal
values_order (key ∷ keys) [] [] = Equal
values_order (key ∷ keys) [] (y ∷ ys) = Less
values_order (key ∷ keys) (x ∷ xs) [] = Greater
values_order (key ∷ keys) (x ∷ xs) (y ∷ ys) = ordering_then (value_order key.down key.missing_first x y) (values_order keys xs ys)

-- two keys of one sort
abbrev pub compare : SortSpec → Keys → Keys → Ordering
compare sort a b = values_order (all_keys sort) a.values b.values

-- whether what is shown of a key is strictly after these values
abbrev pub is_after : SortSpec → Keys → Keys → Bool
is_after sort key after = is_gt (values_order (shown_keys sort) key.values after.values)
