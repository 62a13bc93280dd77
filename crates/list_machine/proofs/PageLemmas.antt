-- The page of an enumeration, and the answer with it.
use Rattle.std.proofs.Common.{◌≡◌, ℕ, ◌-◌, ◌+◌, ◌<◌, ◌≤◌, Bool, true, false, cond, List, [], ◌∷◌, ◌++◌, length, map, min, suc, take, drop, get_or, filter, Option, Some, None, All, sym, refl, ap, ap₂, subst, ◌∙◌, arith}
use Rattle.std.specs.List.{count_by}
use Rattle.std.specs.List.Sorted.{IsPermutation, IsSortedBy}
use Rattle.std.specs.Ordering.{is_lt}
use Rattle.std.proofs.lemmas.List.{drop_min, get_or-map, length-map, length-take-le, take_min, take_more, take-map, drop-map}
use Rattle.std.proofs.lemmas.List.Elements.{All-drop, All-filter, All-head, All-tail, All-take, All-weaker}
use Rattle.std.proofs.lemmas.List.Sorted.{All-permutation, IsPermutation-map}
use Rattle.std.proofs.lemmas.List.Sums.{sum_by_push}
use Rattle.std.proofs.lemmas.Simd.{map-map}
use Rattle.es_types.specs.declared.row.Row.{Row}
use Rattle.es_query.specs.declared.query.Query.{Query}
use Rattle.es_sort.specs.declared.sort.Keys.{Keys}
use Rattle.es_sort.specs.declared.sort.SortSpec.{SortSpec}
use Rattle.es_sort.specs.Orders.{compare, is_after}
use Rattle.slice_rule.specs.declared.slice.Slice.{Slice}
use Rattle.list_machine.specs.declared.page.candidates.Candidate.{Candidate}
use Rattle.list_machine.specs.declared.page.request.Answer.{Answer}
use Rattle.list_machine.specs.declared.page.request.Hit.{Hit}
use Rattle.list_machine.specs.declared.page.request.SearchRequest.{SearchRequest}
use Rattle.list_machine.specs.Seen.Paging.{AreCandidates, key_past, place_seen, places_seen}
use Rattle.list_machine.specs.Seen.Stores.{IsCountable}
use Rattle.list_machine.specs.Views.{HasPlaces, Place, View, answer, comes_before, enumeration, found, hit, hits_of, is_past, is_skipped, key_at, phases, skipped, skips_from, total_of}
use Rattle.list_machine.proofs.Beyond.{filter_all}
use Rattle.list_machine.proofs.Ordered.{KeyLaws, sorted_is}

-- one more shard is skipped or not
skips-push : (view : View) (query : Query) (slice : Option Slice) (shard : ℕ) (shards : List (List Row)) (rows : List Row)
    → skips_from view query slice shard (shards ++ rows ∷ []) ≡ skips_from view query slice shard shards ++ is_skipped view query slice (shard + length shards) rows ∷ []
skips-push view query slice shard [] rows = ap (λ n. is_skipped view query slice n rows ∷ []) (omega arith)
skips-push view query slice shard (first ∷ shards) rows =
    let place : (shard + 1) + length shards ≡ shard + suc (length shards) = omega arith in
    ap (λ them. is_skipped view query slice shard first ∷ them)
    (skips-push view query slice (shard + 1) shards rows
    ∙ ap (λ n. skips_from view query slice (shard + 1) shards ++ is_skipped view query slice n rows ∷ []) place)

-- the step of a loop that counts them
pub skips-more : (view : View) (query : Query) (slice : Option Slice) (shards : List (List Row)) (i : ℕ) (rows : List Row) → i < length shards → rows ≡ get_or shards i rows
    → count_by (λ skip. skip) (skips_from view query slice 0 (take (i + 1) shards))
    ≡ count_by (λ skip. skip) (skips_from view query slice 0 (take i shards)) + cond (is_skipped view query slice i rows) 1 0
skips-more view query slice shards i rows less is =
    let count : List Bool → ℕ = count_by (λ skip. skip) in
    let before : List Bool = skips_from view query slice 0 (take i shards) in
    let place : 0 + length (take i shards) ≡ i = omega (arith, length-take-le i shards (omega arith)) in
    ap (λ them. count (skips_from view query slice 0 them)) (take_more shards i rows less ∙ ap (λ it. take i shards ++ it ∷ []) (sym is))
    ∙ ap count (skips-push view query slice 0 (take i shards) rows ∙ ap (λ n. before ++ is_skipped view query slice n rows ∷ []) place)
    ∙ sum_by_push (λ skip. cond skip 1 0) before (is_skipped view query slice i rows)

-- no shard of a small view has more rows than it has numbers for
pub small_has_places : (view : View) → IsCountable view → HasPlaces view
small_has_places view small =
    All-weaker (λ (rows : List Row). length rows ≤ 2147483647) (λ (rows : List Row). length rows ≤ 4294967296) (λ rows few. omega (arith, few)) view.shards small.rows

-- keys that do not fall are those of places that do not
sorted_places : (view : View) (sort : SortSpec) (them : List Candidate) → All (λ (one : Candidate). one.key ≡ key_at view sort (place_seen one)) them
    → IsSortedBy (λ (a b : Candidate). is_lt (compare sort a.key b.key)) them → IsSortedBy (comes_before view sort) (places_seen them)
sorted_places view sort [] keyed sorted k d low within = absurd (omega arith)
sorted_places view sort (first ∷ rest) keyed sorted k d low within =
    let them = first ∷ rest in
    let later : k + 1 < length them = omega (arith, length-map them place_seen) in
    let key_of : (i : ℕ) → i < length them → key_at view sort (get_or (places_seen them) i d) ≡ (get_or them i first).key =
    λ i less. ap (key_at view sort) (get_or-map place_seen them i first d less) ∙ sym (keyed i first less) in
    ap₂ (λ a b. is_lt (compare sort a b)) (key_of (k + 1) later) (key_of k (omega arith)) ∙ sorted k first low later

-- the candidates in the order of their keys are those of the enumeration
pub sorted_candidates : KeyLaws → (view : View) (query : Query) (sort : SortSpec) (slice : Option Slice) (old new : List Candidate) → HasPlaces view → AreCandidates view sort (found view query slice) old
    → IsPermutation old new → IsSortedBy (λ (a b : Candidate). is_lt (compare sort a.key b.key)) new → AreCandidates view sort (enumeration view query sort slice) new
sorted_candidates laws view query sort slice old new has was same sorted =
    let keyed = All-permutation (λ (one : Candidate). one.key ≡ key_at view sort (place_seen one)) old new same was.keyed in
    record {
      are = sorted_is laws view query sort slice (places_seen new) has (subst (λ (all : List Place). IsPermutation all (places_seen new)) was.are (IsPermutation-map place_seen old new same)) (sorted_places view sort new keyed sorted);
      keyed = keyed;
    }

-- what a function makes of the elements that pass, where another test of what it makes agrees
map-filter : {X Y : Type 0} (f : X → Y) (p : X → Bool) (q : Y → Bool) (xs : List X) → All (λ x. p x ≡ q (f x)) xs → map f (filter p xs) ≡ filter q (map f xs)
map-filter f p q [] agree = refl
map-filter {X} f p q (x ∷ xs) agree =
    map-cond (p x) x (filter p xs)
    ∙ ap (λ rest. cond (p x) (f x ∷ rest) rest) (map-filter f p q xs (All-tail (λ it. p it ≡ q (f it)) x xs agree))
    ∙ ap (λ b. cond b (f x ∷ filter q (map f xs)) (filter q (map f xs))) (All-head (λ it. p it ≡ q (f it)) x xs agree)
  where
    map-cond : (b : Bool) (y : X) (ys : List X) → map f (cond b (y ∷ ys) ys) ≡ cond b (f y ∷ map f ys) (map f ys)
    map-cond true y ys = refl
    map-cond false y ys = refl

-- a candidate is beyond the values where its place is
beyond_agrees : (view : View) (sort : SortSpec) (after : Option Keys) (one : Candidate) → one.key ≡ key_at view sort (place_seen one) → key_past sort after one.key ≡ is_past view sort after (place_seen one)
beyond_agrees view sort None one keyed = refl
beyond_agrees view sort (Some after) one keyed = ap (λ key. is_after sort key after) keyed

-- the candidates that are beyond the values
pub beyond_are : (view : View) (sort : SortSpec) (after : Option Keys) (places : List Place) (them : List Candidate) → AreCandidates view sort places them
    → AreCandidates view sort (filter (is_past view sort after) places) (filter (λ (one : Candidate). key_past sort after one.key) them)
beyond_are view sort after places them is =
    let keyed : Candidate → Type 0 = λ one. one.key ≡ key_at view sort (place_seen one) in
    let agree : All (λ (one : Candidate). key_past sort after one.key ≡ is_past view sort after (place_seen one)) them =
    All-weaker keyed (λ (one : Candidate). key_past sort after one.key ≡ is_past view sort after (place_seen one)) (λ one it. beyond_agrees view sort after one it) them is.keyed in
    record {
      are = map-filter place_seen (λ (one : Candidate). key_past sort after one.key) (is_past view sort after) them agree ∙ ap (filter (is_past view sort after)) is.are;
      keyed = All-filter (λ (one : Candidate). key_past sort after one.key) keyed them is.keyed;
    }

-- with no values, all are beyond them
pub beyond_none : (sort : SortSpec) (after : Option Keys) (them : List Candidate) → after ≡ None → them ≡ filter (λ (one : Candidate). key_past sort after one.key) them
beyond_none sort after them none =
    sym (filter_all (λ (one : Candidate). key_past sort None one.key) them (λ k d less. refl))
    ∙ ap (λ o. filter (λ (one : Candidate). key_past sort o one.key) them) (sym none)

-- some of the candidates after the first ones
part_are : (view : View) (sort : SortSpec) (places : List Place) (them : List Candidate) (skip size : ℕ) → AreCandidates view sort places them
    → AreCandidates view sort (take size (drop skip places)) (take size (drop skip them))
part_are view sort places them skip size is =
    let keyed : Candidate → Type 0 = λ one. one.key ≡ key_at view sort (place_seen one) in
    record {
      are = sym (take-map place_seen size (drop skip them)) ∙ ap (take size) (sym (drop-map place_seen skip them) ∙ ap (drop skip) is.are);
      keyed = All-take keyed size (drop skip them) (All-drop keyed skip them is.keyed);
    }

-- the hits of a part of them are those of the page
pub page_is : (view : View) (request : SearchRequest) (left rest : List Candidate) (skip start size : ℕ)
    → AreCandidates view request.sort (filter (is_past view request.sort request.after) (enumeration view request.query request.sort request.slice)) left
    → start ≡ min skip (length left) → rest ≡ drop start left → size ≡ min request.size (length rest)
    → map (λ one. hit view request.sort (place_seen one)) (take size rest) ≡ hits_of view request skip
page_is view request left rest skip start size is begins cut ends =
    let behind : rest ≡ drop skip left = cut ∙ ap (λ n. drop n left) begins ∙ drop_min skip left in
    let part : take size rest ≡ take request.size (drop skip left) = ap (λ n. take n rest) ends ∙ take_min request.size rest ∙ ap (take request.size) behind in
    ap (map (λ one. hit view request.sort (place_seen one))) part
    ∙ sym (map-map (hit view request.sort) place_seen (take request.size (drop skip left)))
    ∙ ap (map (hit view request.sort)) (part_are view request.sort (filter (is_past view request.sort request.after) (enumeration view request.query request.sort request.slice)) left skip request.size is).are

-- an answer of these parts
abbrev made : ℕ → ℕ → ℕ → ℕ → List Hit → Answer
made shards skipped phases total hits =
    record { counts = record { total = shards; successful = shards; skipped = skipped; failed = 0 }; phases = phases; total = total; hits = hits }

-- an answer from its parts
pub answer_is : (view : View) (request : SearchRequest) (skip shards some steps total : ℕ) (hits : List Hit)
    → shards ≡ length view.shards → some ≡ skipped view request.query request.slice → steps ≡ phases (shards - some) request.batch
    → total ≡ total_of view request → hits ≡ hits_of view request skip
    → made shards some steps total hits ≡ answer view request skip
answer_is view request skip shards some steps total hits many skips phased counted shows =
    ap (λ n. made shards some n total hits) phased
    ∙ ap (λ n. made n some (phases (n - some) request.batch) total hits) many
    ∙ ap (λ n. made (length view.shards) n (phases (length view.shards - n) request.batch) total hits) skips
    ∙ ap₂ (made (length view.shards) (skipped view request.query request.slice) (phases (length view.shards - skipped view request.query request.slice) request.batch)) counted shows
