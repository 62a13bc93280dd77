-- Lists of one word.
use Rattle.std.proofs.Common.{◌≡◌, ℕ, List, [], ◌∷◌, length, get_or, false, refl, sym, ap, arith}
use Rattle.std.specs.Prelude.{bytes_eq, codes}
use Rattle.es_node.specs.Running.{is_replay}

pub one_word : (words : List (List ℕ)) (word : List ℕ) → length words ≡ 1 → word ≡ get_or words 0 word
    → is_replay words ≡ bytes_eq word (codes "replay")
one_word [] word one is = absurd (omega (arith, one))
one_word (w ∷ []) word one is = ap (λ (x : List ℕ). bytes_eq x (codes "replay")) (sym is)
one_word (w ∷ v ∷ words) word one is = absurd (omega (arith, one))

pub other_words : (words : List (List ℕ)) → (length words ≡ 1 → ⊥) → is_replay words ≡ false
other_words [] other = refl
other_words (w ∷ []) other = absurd (other refl)
other_words (w ∷ v ∷ words) other = refl
