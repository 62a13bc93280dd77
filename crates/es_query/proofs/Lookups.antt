-- The bound of the first field of a name.
use Rattle.std.proofs.Common.{◌≡◌, ℕ, ◌<◌, ◌≤◌, min, List, [], ◌∷◌, length, get_or, Option, Some, None, MatchOption, Bor, suc, zero, true, false, refl, sym, ◌∙◌, arith}
use Rattle.std.specs.Str.{bytes_eq}
use Rattle.es_types.specs.declared.bounds.Bound.{Bound}
use Rattle.es_types.specs.declared.bounds.Bound.TheVariants as bound
use Rattle.es_types.specs.declared.mapping.Field.{Field}
use Rattle.es_types.proofs.Lookups.{IsFound, OthersBelow, is_named, found_within, named_at, no_some, others, others_before}
use Rattle.es_query.specs.Excluded.{bound_in}

module _ (name : List ℕ) where
  bound_past : (fields : List Field) (bounds : List Bound) (n : ℕ) → OthersBelow name fields n → min (length fields) (length bounds) ≤ n → bound_in fields bounds name ≡ bound.Nothing
  bound_past [] bounds n differ past = refl
  bound_past (field ∷ fields) [] n differ past = refl
  bound_past (field ∷ fields) (first ∷ bounds) zero differ past = absurd (omega arith)
  bound_past (field ∷ fields) (first ∷ bounds) (suc n) differ past =
      let differs : bytes_eq field.name name ≡ false = differ 0 field (omega arith) in
      rw differs (bound_past fields bounds n (λ k d before. differ (suc k) d (omega arith)) (omega arith))

  bound_at : (fields : List Field) (bounds : List Bound) (at : ℕ) (field : Field) (first : Bound) → OthersBelow name fields at → is_named name (get_or fields at field) ≡ true → at < length fields → at < length bounds → bound_in fields bounds name ≡ get_or bounds at first
  bound_at [] bounds at d e differ same within in_bounds = absurd (omega arith)
  bound_at (field ∷ fields) [] at d e differ same within in_bounds = absurd (omega arith)
  bound_at (field ∷ fields) (first ∷ bounds) zero d e differ same within in_bounds =
      let named : bytes_eq field.name name ≡ true = same in rw named
  bound_at (field ∷ fields) (first ∷ bounds) (suc at) d e differ same within in_bounds =
      let differs : bytes_eq field.name name ≡ false = differ 0 field (omega arith) in
      rw differs (bound_at fields bounds at d e (λ k d before. differ (suc k) d (omega arith)) same (omega arith) (omega arith))

bound_taken : (name : List ℕ) (fields : List Field) (at : ℕ) → IsFound name fields (Some at) → (bounds : List Bound) (first : Bound) → at < length bounds → bound_in fields bounds name ≡ get_or bounds at first
bound_taken name [] at is bounds first in_bounds = absurd (no_some at is)
bound_taken name (field ∷ fields) at is bounds first in_bounds = bound_at name (field ∷ fields) bounds at field first (others_before name (field ∷ fields) at is) (named_at name (field ∷ fields) at field is) (found_within name (field ∷ fields) at is) in_bounds

module _ (name : List ℕ) (fields : List Field) where
  -- a field that isn't mapped
  pub bound_unmapped : (bounds : List Bound) → IsFound name fields None → bound_in fields bounds name ≡ bound.Nothing
  bound_unmapped bounds is = bound_past name fields bounds (length fields) (others name fields is) (omega arith)

  module _ (at : ℕ) (is : IsFound name fields (Some at)) where
    bound_short : (bounds : List Bound) → length bounds ≤ at → bound_in fields bounds name ≡ bound.Nothing
    bound_short bounds short = bound_past name fields bounds at (others_before name fields at is) (omega arith)

    bound_found : (bounds : List Bound) (first : Bound) → at < length bounds → first ≡ get_or bounds at first → bound_in fields bounds name ≡ first
    bound_found bounds first in_bounds taken = bound_taken name fields at is bounds first in_bounds ∙ sym taken

    -- what a look-up in the bounds gives
    pub bound_looked_up : (bounds : List Bound) (got : Option (Bor Bound)) → MatchOption got (length bounds ≤ at) (λ bound. (at < length bounds) × ((d : Bound) → bound.now ≡ get_or bounds at d)) → MatchOption got (bound_in fields bounds name ≡ bound.Nothing) (λ bound. bound_in fields bounds name ≡ bound.now)
    bound_looked_up bounds None past = bound_short bounds past
    bound_looked_up bounds (Some bound) within = bound_found bounds bound.now within.0 (within.1 bound.now)
