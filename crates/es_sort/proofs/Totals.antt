-- The order of keys is total.
use Rattle.std.proofs.Common.{◌≡◌, ℕ, ℤ, pos, Bool, true, false, List, [], ◌∷◌, take, drop, Ordering, int_cmp, nat_cmp, refl, sym, ap, ◌∙◌}
use Rattle.std.specs.Cmp.{IsTotalOrder}
use Rattle.std.specs.Cmp.Lexicographic.{slice_cmp}
use Rattle.std.specs.Ordering.{flip_args, on, ordering_reverse, ordering_then, then_cmp}
use Rattle.std.proofs.lemmas.Cmp.{back_total, int_cmp_total, lists_total, nat_cmp_total, nat_list_cmp_total, on_total, then_total}
use Rattle.es_types.specs.declared.row.Value.{Value}
use Rattle.es_types.specs.declared.row.Value.TheVariants.{Key, Long, Missing}
use Rattle.es_sort.specs.declared.sort.SortKey.{SortKey}
use Rattle.es_sort.specs.Orders.{turned, value_order, values_order}
use Rattle.es_sort.proofs.Walk.{both_end, then_nothing}

-- what answers as a total order does is one
total_as : {K : Type 0} {R S : K → K → Ordering} → ((x y : K) → R x y ≡ S x y) → IsTotalOrder S → IsTotalOrder R
total_as {K} {R} {S} same total = record {
  antisymm = λ x y. same x y ∙ (total.antisymm x y ∙ ap ordering_reverse (sym (same y x)));
  trans = λ x y z less next. same x z ∙ total.trans x y z (sym (same x y) ∙ less) (sym (same y z) ∙ next);
  congr = λ x y z equal. same x z ∙ (total.congr x y z (sym (same x y) ∙ equal) ∙ sym (same y z));
}

turned_total : {K : Type 0} {R : K → K → Ordering} (down : Bool) → IsTotalOrder R → IsTotalOrder (λ x y. turned down (R x y))
turned_total false total = total
turned_total {K} {R} true total = total_as {R = λ x y. ordering_reverse (R x y)} {S = flip_args R} (λ x y. sym (total.antisymm y x)) (back_total total)

-- first by whether there is a value, then by its kind, and then as texts or as numbers
abbrev presence : Bool → Value → ℕ
presence missing_first (Key text) = 1
presence missing_first (Long number) = 1
presence true Missing = 0
presence false Missing = 2

abbrev kind_rank : Value → ℕ
kind_rank (Key text) = 0
kind_rank (Long number) = 1
kind_rank Missing = 0

abbrev text_of : Value → List ℕ
text_of (Key text) = text
text_of (Long number) = []
text_of Missing = []

abbrev number_of : Value → ℤ
number_of (Key text) = pos 0
number_of (Long number) = number
number_of Missing = pos 0

abbrev by_content : Value → Value → Ordering
by_content = then_cmp (on kind_rank nat_cmp) (then_cmp (on text_of (slice_cmp nat_cmp)) (on number_of int_cmp))

by_content_total : IsTotalOrder by_content
by_content_total = then_total (on_total kind_rank nat_cmp_total) (then_total (on_total text_of nat_list_cmp_total) (on_total number_of int_cmp_total))

abbrev in_steps : Bool → Bool → Value → Value → Ordering
in_steps down missing_first = then_cmp (on (presence missing_first) nat_cmp) (λ a b. turned down (by_content a b))

value_in_steps : (a b : Value) (down missing_first : Bool) → value_order down missing_first a b ≡ in_steps down missing_first a b
value_in_steps (Key a) (Key b) down missing_first = ap (turned down) (sym (then_nothing (slice_cmp nat_cmp a b)))
value_in_steps (Key a) (Long b) down missing_first = refl
value_in_steps (Key a) Missing down true = refl
value_in_steps (Key a) Missing down false = refl
value_in_steps (Long a) (Key b) down missing_first = refl
value_in_steps (Long a) (Long b) down missing_first = refl
value_in_steps (Long a) Missing down true = refl
value_in_steps (Long a) Missing down false = refl
value_in_steps Missing (Key b) down true = refl
value_in_steps Missing (Key b) down false = refl
value_in_steps Missing (Long b) down true = refl
value_in_steps Missing (Long b) down false = refl
value_in_steps Missing Missing true true = refl
value_in_steps Missing Missing true false = refl
value_in_steps Missing Missing false true = refl
value_in_steps Missing Missing false false = refl

value_total : (down missing_first : Bool) → IsTotalOrder (value_order down missing_first)
value_total down missing_first =
    total_as {S = in_steps down missing_first} (λ a b. value_in_steps a b down missing_first)
    (then_total (on_total (presence missing_first) nat_cmp_total) (turned_total {R = by_content} down by_content_total))

-- the first values of both, and then the rest
abbrev by_first : SortKey → List SortKey → List Value → List Value → Ordering
by_first key keys = then_cmp (on (take 1) (slice_cmp (value_order key.down key.missing_first))) (on (drop 1) (values_order keys))

first_then_rest : (key : SortKey) (keys : List SortKey) (xs ys : List Value) → values_order (key ∷ keys) xs ys ≡ by_first key keys xs ys
first_then_rest key keys [] [] = sym (both_end keys)
first_then_rest key keys [] (y ∷ ys) = refl
first_then_rest key keys (x ∷ xs) [] = refl
first_then_rest key keys (x ∷ xs) (y ∷ ys) = ap (λ order. ordering_then order (values_order keys xs ys)) (sym (then_nothing (value_order key.down key.missing_first x y)))

pub values_total : (keys : List SortKey) → IsTotalOrder (values_order keys)
values_total [] = record { antisymm = λ x y. refl; trans = λ x y z less next. less; congr = λ x y z equal. refl }
values_total (key ∷ keys) =
    total_as {S = by_first key keys} (first_then_rest key keys)
    (then_total (on_total (take 1) (lists_total (value_total key.down key.missing_first))) (on_total (drop 1) (values_total keys)))
