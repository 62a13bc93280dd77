-- Which slices have places of a shard.
use Rattle.std.proofs.Common.{◌≡◌, ◌≢◌, ℕ, ◌+◌, ◌*◌, ◌<◌, ◌≤◌, ◌/◌, ◌%◌, false, ◌==◌, ◌&&◌, inl, inr, sym, subst, ap, ◌∙◌, arith, zero-add}
use Rattle.std.proofs.Math.Nat.{add-mul-div_left, add-mul-mod_self_left, div-add-mod, div-eq_of_lt, mod-eq_of_lt, mod-lt, mul-le-mul_left}
use Rattle.std.proofs.lemmas.Bool.{cases_eq, cases_lt, cond-false, cond-true, eq-eqb, le-leb, lt-leb, lt-ltb, ne_eqb}
use Rattle.std.proofs.lemmas.Bool.Decides.{nat_tests}
use Rattle.slice_rule.specs.declared.cover.Cover.TheVariants.{Part}
use Rattle.slice_rule.specs.Parts.{has, part, sharing}

-- where there are fewer slices than shards, one slice has all of a shard
pub whole_shard : (max shards shard rank : ℕ) → max < shards → part max shards shard rank ≡ shard % max
whole_shard max shards shard rank fewer = cond-false _ _ _ (lt-leb shards max fewer)

-- where there are at least as many, the shard of a place is that of its slice
shard_of : (shards shard k : ℕ) → shard < shards → (shard + shards * k) % shards ≡ shard
shard_of shards shard k there = add-mul-mod_self_left shard shards k ∙ mod-eq_of_lt there

-- and what is left of it is the number that the slice has among those that share it
number_of : (shards shard k : ℕ) → shard < shards → (shard + shards * k) / shards ≡ k
number_of shards shard k there = add-mul-div_left shard k (omega arith) ∙ ap (λ n. n + k) (div-eq_of_lt there) ∙ zero-add k

-- a slice that goes by another shard has none of its places
pub other_shard : (max shards shard id rank : ℕ) → shards ≤ max → shard < shards → id % shards ≢ shard → false ≡ (part max shards shard rank == id)
other_shard max shards shard id rank enough there other =
    let k : ℕ = rank % sharing max shards shard in
    let is : part max shards shard rank ≡ shard + shards * k = cond-true _ _ _ (le-leb shards max enough) in
    sym (ne_eqb (part max shards shard rank) id (λ same. other (ap (λ n. n % shards) (sym same ∙ is) ∙ shard_of shards shard k there)))

-- a slice that goes by the shard has the ranks that leave its number there
pub own_shard : (max shards shard id rank c : ℕ) → shards ≤ max → shard < shards → id % shards ≡ shard → c ≡ sharing max shards shard → 1 ≤ c → has (Part (id / shards) c) rank ≡ (part max shards shard rank == id)
own_shard max shards shard id rank c enough there own counted some =
    let k : ℕ = rank % c in
    let whole : shards * (id / shards) + id % shards ≡ id = div-add-mod id shards in
    let is : part max shards shard rank ≡ shard + shards * k = cond-true _ _ _ (le-leb shards max enough) ∙ ap (λ n. shard + shards * (rank % n)) (sym counted) in
    ap (λ b. b && (k == id / shards)) (lt-ltb 0 c (omega arith))
    ∙ elim (cases_eq k (id / shards)) [
      | inl same ↦ eq-eqb k (id / shards) same ∙ sym (eq-eqb (part max shards shard rank) id (is ∙ ap (λ n. shard + shards * n) same ∙ omega arith))
      | inr other ↦ ne_eqb k (id / shards) other ∙ sym (ne_eqb (part max shards shard rank) id (λ one. other (sym (number_of shards shard k there) ∙ ap (λ n. n / shards) (sym is ∙ one))))
    ]

-- after the slices that share a shard there is none
all_share : (max shards shard : ℕ) → shard < shards → max ≤ shard + shards * sharing max shards shard
all_share max shards shard there =
    let whole : shards * (max / shards) + max % shards ≡ max = div-add-mod max shards in
    let less : max % shards < shards = mod-lt max (omega arith) in
    grind (arith, nat_tests)

-- a slice that goes by the shard is one of those that share it
pub is_sharing : (max shards shard id : ℕ) → shard < shards → id < max → id % shards ≡ shard → id / shards + 1 ≤ sharing max shards shard
is_sharing max shards shard id there within goes_by =
    let own : shards * (id / shards) + id % shards ≡ id = div-add-mod id shards in
    elim (cases_lt (id / shards) (sharing max shards shard)) [
      | inl less ↦ omega arith
      | inr more ↦ absurd (omega (arith, all_share max shards shard there, mul-le-mul_left shards more))
    ]

-- the slice that has a place is one of them
pub part_below : (max shards shard rank : ℕ) → 1 ≤ max → shard < shards → part max shards shard rank < max
part_below max shards shard rank some there = elim (cases_lt max shards) [
  | inl fewer ↦ subst (λ n. n < max) (sym (whole_shard max shards shard rank fewer)) (mod-lt shard some)
  | inr enough ↦
      let whole : shards * (max / shards) + max % shards ≡ max = div-add-mod max shards in
      let less : max % shards < shards = mod-lt max (omega arith) in
      let c : ℕ = sharing max shards shard in
      let each : 1 ≤ max / shards = grind (arith, nat_tests) in
      let one : 1 ≤ c = grind (arith, nat_tests) in
      let own : rank % c + 1 ≤ c = omega (arith, mod-lt rank one) in
      let up_to : shards * (rank % c + 1) ≤ shards * c = mul-le-mul_left shards own in
      let all : shard + shards * c < max + shards = grind (arith, nat_tests) in
      subst (λ n. n < max) (sym (cond-true _ _ _ (le-leb shards max enough))) (omega (arith, up_to, all))
]
