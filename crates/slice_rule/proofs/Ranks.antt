-- A cover has something exactly where one of the first ranks has the slice as its part.
use Rattle.std.proofs.Common.{◌≡◌, ℕ, ◌<◌, ◌%◌, Bool, true, false, not, ◌==◌, List, [], ◌∷◌, length, get_or, refl, sym, ap, ◌∙◌, arith, zero-add}
use Rattle.std.specs.List.{list_any}
use Rattle.std.proofs.Math.Nat.{mod-eq_of_lt}
use Rattle.std.proofs.lemmas.Bool.Decides.{nat_tests}
use Rattle.std.proofs.lemmas.List.Folds.{list_any_at}
use Rattle.std.proofs.lemmas.List.FromFn.{get_or-range_with_len, length-range_with_len}
use Rattle.slice_rule.specs.declared.slice.TheConstants.{MOST_SLICES}
use Rattle.slice_rule.specs.declared.cover.Cover.{Cover}
use Rattle.slice_rule.specs.declared.cover.Cover.TheVariants.{None, All, Part}
use Rattle.slice_rule.specs.Parts.{IsFine, covers, first_ranks, has, is_none, part}

length-first_ranks : (n : ℕ) → length (first_ranks n) ≡ n
unfolding first_ranks
length-first_ranks n = length-range_with_len 0 n

-- the rank at a place is that place
rank_at : (n k : ℕ) → k < n → get_or (first_ranks n) k 0 ≡ k
unfolding first_ranks
rank_at n k within = get_or-range_with_len 0 n k 0 within ∙ zero-add k

-- one of them passes
one_passes : (p : ℕ → Bool) (n k : ℕ) → k < n → p k ≡ true → list_any p (first_ranks n) ≡ true
one_passes p n k within passes =
    let there : k < length (first_ranks n) = omega (arith, length-first_ranks n) in
    list_any_at p (first_ranks n) k 0 there (ap p (rank_at n k within) ∙ passes)

-- none passes
none_passes : (p : ℕ → Bool) → ((k : ℕ) → p k ≡ false) → (ks : List ℕ) → list_any p ks ≡ false
none_passes p fails [] = refl
none_passes p fails (k ∷ ks) = rw (fails k) (none_passes p fails ks)

-- the least rank of a part
has_first : (j c : ℕ) → j < c → has (Part j c) j ≡ true
has_first j c within = let least : j % c ≡ j = mod-eq_of_lt within in grind (arith, nat_tests)

module _ (max shards shard id : ℕ) where
  covered : (cover : Cover) (rank : ℕ) → rank < MOST_SLICES → has cover rank ≡ true → has cover rank ≡ (part max shards shard rank == id) → false ≡ not (covers max shards shard id)
  covered cover rank within it is = sym (ap not (one_passes (λ k. part max shards shard k == id) MOST_SLICES rank within (sym is ∙ it)))

  -- what has exactly the slice's ranks is None where none of the first is the slice's
  pub none_tells : (cover : Cover) → IsFine cover → ((rank : ℕ) → has cover rank ≡ (part max shards shard rank == id)) → is_none cover ≡ not (covers max shards shard id)
  none_tells None fine is = sym (ap not (none_passes (λ k. part max shards shard k == id) (λ k. sym (is k)) (first_ranks MOST_SLICES)))
  none_tells All fine is = covered All 0 (omega arith) refl (is 0)
  none_tells (Part j c) fine is = covered (Part j c) j (omega arith) (has_first j c (omega arith)) (is j)
