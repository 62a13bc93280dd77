-- Of any limits the one that is told has the least rank.
use Rattle.std.proofs.Common.{◌≡◌, refl, ◌≤◌, Bool, true, false, [], ◌∷◌, arith}
use Rattle.std.specs.Prelude.{All, nat_le, if◌then◌else◌}
use Rattle.std.proofs.lemmas.Bool.{leb-false, leb-true}
use Rattle.std.proofs.lemmas.List.Elements.{All-cons, All-head, All-nil, All-tail}
use Rattle.es_types.specs.declared.limit.LimitName.{LimitName}
use Rattle.es_route.specs.Limits.{LeastIsTold, first_among, first_of, rank}

-- the one of two has the lower rank
lower_by : (one other : LimitName) (test : Bool) → nat_le (rank one) (rank other) ≡ test
    → (rank (if test then one else other) ≤ rank one) × (rank (if test then one else other) ≤ rank other)
lower_by one other true is = (omega arith, leb-true (rank one) (rank other) is)
lower_by one other false is = let more = leb-false (rank one) (rank other) is in (omega (arith, more), omega arith)

lower : (one other : LimitName) → (rank (first_of one other) ≤ rank one) × (rank (first_of one other) ≤ rank other)
lower one other = lower_by one other (nat_le (rank one) (rank other)) refl

pub least_is_told : LeastIsTold
least_is_told name [] = All-cons (λ (other : LimitName). rank name ≤ rank other) name [] (omega arith) (All-nil (λ (other : LimitName). rank name ≤ rank other))
least_is_told name (other ∷ more) = go (least_is_told (first_of name other) more)
  where
    Least : LimitName → Type 0
    Least it = rank (first_among (first_of name other) more) ≤ rank it

    go : All Least (first_of name other ∷ more) → All Least (name ∷ other ∷ more)
    go all =
        let first = All-head Least (first_of name other) more all in
        let two = lower name other in
        All-cons Least name (other ∷ more) (omega (arith, first, two.0))
        (All-cons Least other more (omega (arith, first, two.1)) (All-tail Least (first_of name other) more all))
