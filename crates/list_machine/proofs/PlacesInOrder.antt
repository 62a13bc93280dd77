-- The places of a view stand in the order of their numbers.
use Rattle.std.proofs.Common.{ℕ, ◌+◌, ◌*◌, ◌≤◌, Bool, true, false, cond, List, [], ◌∷◌, ◌++◌, length, All, filter, arith}
use Rattle.std.proofs.lemmas.List.Elements.{All-head, All-tail}
use Rattle.es_types.specs.declared.row.Row.{Row}
use Rattle.list_machine.specs.Views.{Place, place_number, places_of_shard, places_from}

-- the numbers rise, and begin no lower
abbrev pub Rising : ℕ → List Place → Type 0
Rising low [] = Unit {0}
Rising low (place ∷ places) = (low ≤ place_number place) × Rising (place_number place + 1) places

-- a lower beginning
rising_below : (low high : ℕ) (places : List Place) → low ≤ high → Rising high places → Rising low places
rising_below low high [] l r = tt
rising_below low high (place ∷ places) l r = (omega (arith, r.0), r.1)

-- a shard's places, and others after them
rising_shard : (rows : List Row) (shard rank to : ℕ) (rest : List Place) → shard * 4294967296 + rank + length rows ≤ to → Rising to rest
    → Rising (shard * 4294967296 + rank) (places_of_shard shard rank rows ++ rest)
rising_shard [] shard rank to rest l r = rising_below (shard * 4294967296 + rank) to rest (omega arith) r
rising_shard (row ∷ rows) shard rank to rest l r = (
  omega arith,
  rising_below (shard * 4294967296 + rank + 1) (shard * 4294967296 + (rank + 1)) (places_of_shard shard (rank + 1) rows ++ rest) (omega arith)
      (rising_shard rows shard (rank + 1) to rest (omega arith) r),
)

-- the places of all shards
pub rising_places : (shards : List (List Row)) (shard : ℕ) → All (λ (rows : List Row). length rows ≤ 4294967296) shards → Rising (shard * 4294967296) (places_from shard shards)
rising_places [] shard all = tt
rising_places (rows ∷ shards) shard all =
    let few = All-head (λ (rows : List Row). length rows ≤ 4294967296) rows shards all in
    let others = places_from (shard + 1) shards in
    rising_below (shard * 4294967296) (shard * 4294967296 + 0) (places_of_shard shard 0 rows ++ others) (omega arith)
    (rising_shard rows shard 0 ((shard + 1) * 4294967296) others (omega (arith, few))
    (rising_places shards (shard + 1) (All-tail (λ (rows : List Row). length rows ≤ 4294967296) rows shards all)))

-- some of the places
pub rising_filter : (p : Place → Bool) (places : List Place) (low : ℕ) → Rising low places → Rising low (filter p places)
rising_filter p [] low r = tt
rising_filter p (place ∷ places) low r = go (p place) (rising_filter p places (place_number place + 1) r.1)
  where
    go : (b : Bool) → Rising (place_number place + 1) (filter p places) → Rising low (cond b (place ∷ filter p places) (filter p places))
    go true others = (r.0, others)
    go false others = rising_below low (place_number place + 1) (filter p places) (omega (arith, r.0)) others
