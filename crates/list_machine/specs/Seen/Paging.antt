-- The rows that a search found, with their places and keys.
use Rattle.std.specs.Prelude.{◌≡◌, Bool, true, List, ◌++◌, map, filter, Option, Some, None, All}
use Rattle.es_sort.specs.declared.sort.Keys.{Keys}
use Rattle.es_sort.specs.declared.sort.SortSpec.{SortSpec}
use Rattle.es_sort.specs.Orders.{is_after}
use Rattle.list_machine.specs.declared.page.candidates.Candidate.{Candidate}
use Rattle.list_machine.specs.Views.{View, Place, key_at}

abbrev pub place_seen : Candidate → Place
place_seen one = record { shard = one.shard; rank = one.rank; row = one.row.now }

abbrev pub places_seen : List Candidate → List Place
places_seen them = map place_seen them

-- they are these places, each with its key
pub record AreCandidates (view : View) (sort : SortSpec) (places : List Place) (them : List Candidate) : Type 0 where
  pub are : places_seen them ≡ places
  pub keyed : All (λ (one : Candidate). one.key ≡ key_at view sort (place_seen one)) them

-- where the old ones are some first places, the new ones are those too that pass among these
abbrev pub AddsPassing : View → SortSpec → (Place → Bool) → List Place → List Candidate → List Candidate → Type 0
AddsPassing view sort passes places old new =
    (before : List Place) → AreCandidates view sort before old → AreCandidates view sort (before ++ filter passes places) new

-- whether what is shown of a key is strictly after these values
abbrev pub key_past : SortSpec → Option Keys → Keys → Bool
key_past sort None key = true
key_past sort (Some after) key = is_after sort key after
