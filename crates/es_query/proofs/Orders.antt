-- What lies between a least and a greatest, in any total order.
use Rattle.std.proofs.Common.{◌≡◌, Bool, true, false, not, ◌||◌, cond, Ordering, Less, Equal, Greater, refl, sym, ap, ◌∙◌}
use Rattle.std.specs.Cmp.{IsTotalOrder}
use Rattle.std.specs.Ordering.{is_eq, is_ge, is_gt, is_le, is_lt, ordering_reverse}
use Rattle.std.proofs.lemmas.Cmp.{tied_itself, upto}
use Rattle.es_query.specs.declared.query.Side.{Side}
use Rattle.es_query.specs.declared.query.Side.TheVariants.{Above, AtLeast, Below, AtMost}
use Rattle.es_query.specs.Excluded.{furthest}
use Rattle.es_query.specs.Values.{on_side}

not_gt : (order : Ordering) → is_lt order ≡ true → is_gt order ≡ false
not_gt Less is = refl
not_gt Equal is = refl
not_gt Greater is = cc

ge_from : (order : Ordering) → is_lt order ≡ false → is_ge order ≡ true
ge_from Less is = cc
ge_from Equal is = refl
ge_from Greater is = refl

le_from : (order : Ordering) → is_gt order ≡ false → is_le order ≡ true
le_from Less is = refl
le_from Equal is = refl
le_from Greater is = cc

from_not : (test : Bool) → not test ≡ true → test ≡ false
from_not true is = cc
from_not false is = refl

-- one is not above another
abbrev pub UpTo : {K : Type 0} → (K → K → Ordering) → K → K → Type 0
UpTo R a b = is_gt (R a b) ≡ false

abbrev lesser_of : {K : Type 0} → (K → K → Ordering) → K → K → K
lesser_of R a b = cond (is_lt (R b a)) b a

abbrev greater_of : {K : Type 0} → (K → K → Ordering) → K → K → K
greater_of R a b = cond (is_lt (R a b)) b a

module _ {K : Type 0} (R : K → K → Ordering) (total : IsTotalOrder R) where
  pub up_to_itself : (a : K) → UpTo R a a
  up_to_itself a = rw (tied_itself total a) refl

  -- the two ways to say that one is not above the other
  flipped : (a b : K) → is_lt (R a b) ≡ is_gt (R b a)
  flipped a b = ap is_lt (total.antisymm a b) ∙ turned (R b a)
    where
      turned : (order : Ordering) → is_lt (ordering_reverse order) ≡ is_gt order
      turned Less = refl
      turned Equal = refl
      turned Greater = refl

  lt_up_to : (a b : K) → is_lt (R a b) ≡ true → UpTo R a b
  lt_up_to a b is = not_gt (R a b) is

  ge_up_to : (a b : K) → is_lt (R a b) ≡ false → UpTo R b a
  ge_up_to a b is = sym (flipped a b) ∙ is

  pub up_to_trans : (a b c : K) → UpTo R a b → UpTo R b c → UpTo R a c
  up_to_trans = upto total

  pub lesser_left : (a b : K) → UpTo R (lesser_of R a b) a
  lesser_left a b = lesser_left_at (is_lt (R b a)) refl
    where
      lesser_left_at : (test : Bool) → is_lt (R b a) ≡ test → UpTo R (cond test b a) a
      lesser_left_at true is = lt_up_to b a is
      lesser_left_at false is = up_to_itself a

  pub lesser_right : (a b : K) → UpTo R (lesser_of R a b) b
  lesser_right a b = lesser_right_at (is_lt (R b a)) refl
    where
      lesser_right_at : (test : Bool) → is_lt (R b a) ≡ test → UpTo R (cond test b a) b
      lesser_right_at true is = up_to_itself b
      lesser_right_at false is = ge_up_to b a is

  pub greater_left : (a b : K) → UpTo R a (greater_of R a b)
  greater_left a b = greater_left_at (is_lt (R a b)) refl
    where
      greater_left_at : (test : Bool) → is_lt (R a b) ≡ test → UpTo R a (cond test b a)
      greater_left_at true is = lt_up_to a b is
      greater_left_at false is = up_to_itself a

  pub greater_right : (a b : K) → UpTo R b (greater_of R a b)
  greater_right a b = greater_right_at (is_lt (R a b)) refl
    where
      greater_right_at : (test : Bool) → is_lt (R a b) ≡ test → UpTo R b (cond test b a)
      greater_right_at true is = up_to_itself b
      greater_right_at false is = ge_up_to a b is

  module _ (least value greatest : K) (above : UpTo R least value) (below : UpTo R value greatest) where
    -- one outside is none between
    pub outside_differs : (wanted : K) → (is_lt (R wanted least) || is_gt (R wanted greatest)) ≡ true → is_eq (R value wanted) ≡ false
    outside_differs wanted outside = differs (R value wanted) refl
      where
        differs : (order : Ordering) → R value wanted ≡ order → is_eq order ≡ false
        differs Less is = refl
        differs Greater is = refl
        differs Equal is =
            let low : is_lt (R wanted least) ≡ false = ap is_lt (sym (total.congr value wanted least is)) ∙ flipped value least ∙ above in
            let high : is_gt (R wanted greatest) ≡ false = ap is_gt (sym (total.congr value wanted greatest is)) ∙ below in
            let neither : (is_lt (R wanted least) || is_gt (R wanted greatest)) ≡ false = rw (low, high) refl in
            cc

    -- where the furthest to a side is on the wrong side, so is each between
    pub beyond_fails : (side : Side) (edge : K) → not (on_side side (R (furthest side least greatest) edge)) ≡ true → on_side side (R value edge) ≡ false
    beyond_fails Above edge fails = upto total value greatest edge below (from_not _ fails)
    beyond_fails AtLeast edge fails = at_least_fails (R value edge) refl
      where
        reaches : UpTo R edge value → ⊥
        reaches up =
            let less : is_lt (R greatest edge) ≡ false = flipped greatest edge ∙ upto total edge value greatest up below in
            let meets : is_ge (R greatest edge) ≡ true = ge_from _ less in
            let misses : is_ge (R greatest edge) ≡ false = from_not _ fails in
            cc

        at_least_fails : (order : Ordering) → R value edge ≡ order → is_ge order ≡ false
        at_least_fails Less is = refl
        at_least_fails Equal is = absurd (reaches (ge_up_to value edge (ap is_lt is)))
        at_least_fails Greater is = absurd (reaches (ge_up_to value edge (ap is_lt is)))
    beyond_fails Below edge fails = flipped value edge ∙ upto total edge least value (sym (flipped least edge) ∙ from_not _ fails) above
    beyond_fails AtMost edge fails = at_most_fails (R value edge) refl
      where
        reaches : UpTo R value edge → ⊥
        reaches up =
            let meets : is_le (R least edge) ≡ true = le_from _ (upto total least value edge above up) in
            let misses : is_le (R least edge) ≡ false = from_not _ fails in
            cc

        at_most_fails : (order : Ordering) → R value edge ≡ order → is_le order ≡ false
        at_most_fails Less is = absurd (reaches (ap is_gt is))
        at_most_fails Equal is = absurd (reaches (ap is_gt is))
        at_most_fails Greater is = refl
