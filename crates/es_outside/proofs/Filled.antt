-- What a source in memory fills in.
use Rattle.std.proofs.Common.{◌≡◌, ℕ, ◌+◌, ◌<◌, ◌≤◌, min, List, [], ◌∷◌, length, take, drop, Some, refl, ap, sym, arith}
use Rattle.std.proofs.lemmas.List.{drop-drop}
use Rattle.es_outside.specs.Told.{Read}

empty : (bytes : List ℕ) → length bytes ≡ 0 → bytes ≡ []
empty [] h = refl
empty (b ∷ bytes) h = absurd (omega (arith, h))

-- the first count bytes of what is left from a place on were read
pub filled : (bytes room : List ℕ) (at count piece long : ℕ) → 1 ≤ piece → 0 < long
    → count ≡ min (min piece long) (length (drop at bytes)) → take count room ≡ take count (drop at bytes)
    → Read (drop at bytes) (Some (drop (at + count) bytes)) room count
filled bytes room at count piece long some wide is same =
    record {
      enough = omega (arith, is);
      same = same;
      left = ap Some (sym (drop-drop count at bytes));
      end = λ none. empty (drop at bytes) (omega (arith, is, none));
    }
