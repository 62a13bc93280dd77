-- Which slice has a place: that of a rank in a shard, where there are so many slices and so many shards. Slices are laid over
-- the shards first, and over their documents where there are more slices than shards (Elasticsearch's reference, "Paginate
-- search results", on search slicing). How they are laid there is this service's own rule.
use Rattle.std.specs.Prelude.{◌≤◌, ◌<◌, ℕ, ◌+◌, ◌*◌, ◌/◌, ◌%◌, nat_le, nat_lt, Bool, true, false, ◌==◌, ◌&&◌, if◌then◌else◌, List}
use Rattle.std.specs.List.{list_any, range_with_len}
use Rattle.slice_rule.specs.declared.slice.TheConstants.{LEAST_SLICES, MOST_SLICES}
use Rattle.slice_rule.specs.declared.cover.Cover.{Cover}
use Rattle.slice_rule.specs.declared.cover.Cover.TheVariants.{None, All, Part}
use Rattle.slice_rule.specs.declared.slice.Slice.{Slice}

-- a slice that there can be
pub record IsSlice (slice : Slice) : Type 0 where
  pub some : LEAST_SLICES ≤ slice.max
  pub few : slice.max ≤ MOST_SLICES
  pub within : slice.id < slice.max

-- how many slices share a shard, where there are at least as many slices as shards
abbrev pub sharing : ℕ → ℕ → ℕ → ℕ
sharing max shards shard = max / shards + (if nat_lt shard (max % shards) then 1 else 0)

-- the one slice that has the place
abbrev pub part : ℕ → ℕ → ℕ → ℕ → ℕ
part max shards shard rank = if nat_le shards max then shard + shards * (rank % sharing max shards shard) else shard % max

-- the ranks from 0 on, so many of them
unfoldable pub first_ranks : ℕ → List ℕ
first_ranks n = range_with_len 0 n

-- whether a slice covers a shard: some rank of 0 to 1,023 has it as its part
abbrev pub covers : ℕ → ℕ → ℕ → ℕ → Bool
covers max shards shard id = list_any (λ rank. part max shards shard rank == id) (first_ranks MOST_SLICES)

-- which ranks of a shard a cover has. Divided by 0, none leaves anything
abbrev pub has : Cover → ℕ → Bool
has None rank = false
has All rank = true
has (Part j c) rank = nat_lt 0 c && (rank % c == j)

-- whether it is the one that has nothing
abbrev pub is_none : Cover → Bool
is_none None = true
is_none All = false
is_none (Part j c) = false

-- a part of a shard is one of two or more, so that each cover but None has a place among the first 1,024
abbrev pub IsFine : Cover → Type 0
IsFine None = Unit {0}
IsFine All = Unit {0}
IsFine (Part j c) = (2 ≤ c) × (c ≤ MOST_SLICES) × (j + 1 ≤ c)
