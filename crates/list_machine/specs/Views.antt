-- A view, its places in the order of a sort, those of a slice, and a page of them.
use Rattle.std.specs.Prelude.{ℕ, ◌≤◌, All, ◌+◌, ◌-◌, ◌*◌, ◌/◌, ◌==◌, ◌&&◌, ◌||◌, not, Bool, true, List, [], ◌∷◌, ◌++◌, length, take, drop, map, filter, count_by, Option, Some, None}
use Rattle.std.specs.Ordering.{is_lt}
use Rattle.es_types.specs.declared.mapping.Field.{Field}
use Rattle.es_types.specs.declared.row.Row.{Row}
use Rattle.es_types.specs.declared.row.Value.{Value}
use Rattle.es_query.specs.declared.query.Query.{Query}
use Rattle.es_query.specs.Excluded.{excluded}
use Rattle.es_query.specs.Limits.{bounds_of}
use Rattle.es_query.specs.Matches.{matches}
use Rattle.es_sort.specs.declared.sort.Keys.{Keys}
use Rattle.es_sort.specs.declared.sort.SortSpec.{SortSpec}
use Rattle.es_sort.specs.Keys.{full_key, shown_key}
use Rattle.es_sort.specs.Orders.{compare, is_after}
use Rattle.slice_rule.specs.declared.slice.Slice.{Slice}
use Rattle.slice_rule.specs.Parts.{covers, part}
use Rattle.list_machine.specs.declared.page.request.SearchRequest.{SearchRequest}
use Rattle.list_machine.specs.declared.page.request.Answer.{Answer}
use Rattle.list_machine.specs.declared.page.request.Counts.{Counts}
use Rattle.list_machine.specs.declared.page.request.Hit.{Hit}
use Rattle.list_machine.specs.Sorting.{in_order}

-- the rows of each shard of an index at one moment, and its mapping
pub record View : Type 0 where
  pub index : List ℕ
  pub mapping : List Field
  pub shards : List (List Row)

-- the rows of each shard
abbrev pub shards_of : View → List (List Row)
shards_of view = view.shards

-- the name of the index that a shard is of, and its mapping
abbrev pub index_at : View → ℕ → List ℕ
index_at view shard = view.index

abbrev pub mapping_at : View → ℕ → List Field
mapping_at view shard = view.mapping

-- a row of a view: which shard has it, and how many rows stand before it there
pub record Place : Type 0 where
  pub shard : ℕ
  pub rank : ℕ
  pub row : Row

-- the number of a place
abbrev pub place_number : Place → ℕ
place_number place = place.shard * 4294967296 + place.rank

abbrev pub places_of_shard : ℕ → ℕ → List Row → List Place
places_of_shard shard rank [] = []
places_of_shard shard rank (row ∷ rows) = record { shard = shard; rank = rank; row = row } ∷ places_of_shard shard (rank + 1) rows

abbrev pub places_from : ℕ → List (List Row) → List Place
places_from shard [] = []
places_from shard (rows ∷ shards) = places_of_shard shard 0 rows ++ places_from (shard + 1) shards

-- no shard has more rows than it has numbers for their places, so that no two places have one number
abbrev pub HasPlaces : View → Type 0
HasPlaces view = All (λ (rows : List Row). length rows ≤ 4294967296) (shards_of view)

-- the key of a place, by which it is ordered
abbrev pub key_at : View → SortSpec → Place → Keys
key_at view sort place = full_key (mapping_at view place.shard) sort place.row.values (place_number place)

-- what a hit shows of it
abbrev pub shown_at : View → SortSpec → Place → List Value
shown_at view sort place = shown_key (mapping_at view place.shard) sort place.row.values (place_number place)

-- whether one place comes before another
abbrev pub comes_before : View → SortSpec → Place → Place → Bool
comes_before view sort a b = is_lt (compare sort (key_at view sort a) (key_at view sort b))

-- whether a slice has the place of that rank in a shard, of so many; where there is no slice, every place is had
abbrev pub is_had : ℕ → Option Slice → ℕ → ℕ → Bool
is_had shards None shard rank = true
is_had shards (Some slice) shard rank = part slice.max shards shard rank == slice.id

-- whether a search wants a place: the slice has it, and its row matches
abbrev pub is_wanted : View → Query → Option Slice → Place → Bool
is_wanted view query slice place = is_had (length (shards_of view)) slice place.shard place.rank && matches (mapping_at view place.shard) place.row.values query

-- all places that a search wants, as they stand in the view
abbrev pub found : View → Query → Option Slice → List Place
found view query slice = filter (is_wanted view query slice) (places_from 0 (shards_of view))

-- the same places, each once, in the order of their keys
abbrev pub enumeration : View → Query → SortSpec → Option Slice → List Place
enumeration view query sort slice = in_order (comes_before view sort) (found view query slice)

-- whether what is shown of the place is strictly after these values
abbrev pub is_past : View → SortSpec → Option Keys → Place → Bool
is_past view sort None place = true
is_past view sort (Some after) place = is_after sort (key_at view sort place) after

-- the places of a page: those beyond what the request gives, without the first ones, at most as many as it asks for
abbrev pub page : View → SearchRequest → ℕ → List Place
page view request skip =
    take request.size (drop skip (filter (is_past view request.sort request.after) (enumeration view request.query request.sort request.slice)))

-- what is shown of a place
abbrev pub hit : View → SortSpec → Place → Hit
hit view sort place = record { index = index_at view place.shard; id = place.row.id; source = place.row.source; shown = shown_at view sort place }

-- whether a slice has places of a shard, of so many
abbrev pub is_covered : ℕ → Option Slice → ℕ → Bool
is_covered shards None shard = true
is_covered shards (Some slice) shard = covers slice.max shards shard slice.id

-- whether a shard need not be looked at: the slice doesn't cover it, or its bounds exclude the query
abbrev pub is_skipped : View → Query → Option Slice → ℕ → List Row → Bool
is_skipped view query slice shard rows =
    not (is_covered (length (shards_of view)) slice shard) || excluded (mapping_at view shard) (bounds_of (mapping_at view shard) rows) query

-- the same of each of some shards, from that number on
abbrev pub skips_from : View → Query → Option Slice → ℕ → List (List Row) → List Bool
skips_from view query slice shard [] = []
skips_from view query slice shard (rows ∷ shards) = is_skipped view query slice shard rows ∷ skips_from view query slice (shard + 1) shards

-- of each shard of a view, whether it is skipped
abbrev pub skips : View → Query → Option Slice → List Bool
skips view query slice = skips_from view query slice 0 (shards_of view)

-- how many are
abbrev pub skipped : View → Query → Option Slice → ℕ
skipped view query slice = count_by (λ skip. skip) (skips view query slice)

-- in how many steps the tops of so many shards are brought together, a batch at a time
abbrev pub phases : ℕ → ℕ → ℕ
phases shards batch = 1 + (shards - 1) / batch

-- how the shards of a view fare: all that are asked answer
abbrev pub counts_of : View → SearchRequest → Counts
counts_of view request = record {
  total = length (shards_of view);
  successful = length (shards_of view);
  skipped = skipped view request.query request.slice;
  failed = 0;
}

-- how many places a search wants
abbrev pub total_of : View → SearchRequest → ℕ
total_of view request = length (enumeration view request.query request.sort request.slice)

-- the hits of a page that leaves out the first places
abbrev pub hits_of : View → SearchRequest → ℕ → List Hit
hits_of view request skip = map (hit view request.sort) (page view request skip)

-- the answer to a search of a view with that page
abbrev pub answer : View → SearchRequest → ℕ → Answer
answer view request skip = record {
  counts = counts_of view request;
  phases = phases (length (shards_of view) - skipped view request.query request.slice) request.batch;
  total = total_of view request;
  hits = hits_of view request skip;
}
