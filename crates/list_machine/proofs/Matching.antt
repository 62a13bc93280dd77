-- The places of a view, and how the rows that are wanted are added to a list.
use Rattle.std.proofs.Common.{◌≡◌, ℕ, ◌+◌, ◌<◌, Bool, true, false, cond, ◌&&◌, List, [], ◌∷◌, ◌++◌, length, take, get_or, map, filter, suc, All, Option, sym, refl, ap, subst, ◌∙◌, arith, append-nil, append_assoc}
use Rattle.std.specs.Prelude.{IsFalse}
use Rattle.std.proofs.lemmas.List.{get_or-map, take_more, length-take-le, length-map}
use Rattle.std.proofs.lemmas.List.Elements.{filter-append, All-head, All-tail}
use Rattle.es_types.specs.declared.row.Row.{Row}
use Rattle.es_query.specs.declared.query.Query.{Query}
use Rattle.es_query.specs.Limits.{bounds_of}
use Rattle.es_query.specs.Matches.{matches}
use Rattle.es_sort.specs.declared.sort.SortSpec.{SortSpec}
use Rattle.slice_rule.specs.declared.slice.Slice.{Slice}
use Rattle.list_machine.specs.declared.page.candidates.Candidate.{Candidate}
use Rattle.list_machine.specs.declared.page.view.ShardRef.{ShardRef}
use Rattle.list_machine.specs.declared.page.view.ViewRef.{ViewRef}
use Rattle.list_machine.specs.Seen.Paging.{AddsPassing, AreCandidates}
use Rattle.list_machine.specs.Seen.Stores.{AreBounded}
use Rattle.list_machine.specs.Views.{View, Place, is_had, is_wanted, places_from, places_of_shard}

-- one more row has its place after the others
places_of_shard-push : (shard rank : ℕ) (rows : List Row) (row : Row)
    → places_of_shard shard rank (rows ++ row ∷ []) ≡ places_of_shard shard rank rows ++ record { shard = shard; rank = rank + length rows; row = row } ∷ []
places_of_shard-push shard rank [] row = ap (λ n. record { shard = shard; rank = n; row = row } ∷ []) (omega arith)
places_of_shard-push shard rank (first ∷ rows) row =
    ap (λ places. record { shard = shard; rank = rank; row = first } ∷ places)
    (places_of_shard-push shard (rank + 1) rows row
    ∙ ap (λ n. places_of_shard shard (rank + 1) rows ++ record { shard = shard; rank = n; row = row } ∷ []) (omega arith))

-- one more shard has its places after those of the others
places_from-push : (shard : ℕ) (shards : List (List Row)) (rows : List Row)
    → places_from shard (shards ++ rows ∷ []) ≡ places_from shard shards ++ places_of_shard (shard + length shards) 0 rows
places_from-push shard [] rows =
    append-nil (places_of_shard shard 0 rows)
    ∙ ap (λ n. places_of_shard n 0 rows) (omega arith)
places_from-push shard (first ∷ shards) rows =
    let count : (shard + 1) + length shards ≡ shard + suc (length shards) = omega arith in
    ap (λ places. places_of_shard shard 0 first ++ places) (places_from-push (shard + 1) shards rows)
    ∙ sym (append_assoc (places_of_shard shard 0 first) (places_from (shard + 1) shards) (places_of_shard ((shard + 1) + length shards) 0 rows))
    ∙ ap (λ n. (places_of_shard shard 0 first ++ places_from (shard + 1) shards) ++ places_of_shard n 0 rows) count

-- where none of the places passes, nothing is added
pub places_miss : (view : View) (sort : SortSpec) (passes : Place → Bool) (places : List Place) (them : List Candidate) → filter passes places ≡ [] → AddsPassing view sort passes places them them
places_miss view sort passes places them none before is =
    subst (λ (all : List Place). AreCandidates view sort all them) (sym (ap (λ more. before ++ more) none ∙ append-nil before)) is

-- places after places
adds_then : (view : View) (sort : SortSpec) (passes : Place → Bool) (front rest : List Place) (old them new : List Candidate)
    → AddsPassing view sort passes front old them → AddsPassing view sort passes rest them new → AddsPassing view sort passes (front ++ rest) old new
adds_then view sort passes front rest old them new first then before is =
    let whole : (before ++ filter passes front) ++ filter passes rest ≡ before ++ filter passes (front ++ rest) =
    append_assoc before (filter passes front) (filter passes rest) ∙ ap (λ more. before ++ more) (sym (filter-append passes front rest)) in
    subst (λ (all : List Place). AreCandidates view sort all new) whole (then (before ++ filter passes front) (first before is))

-- the step of a loop over the rows of a shard
pub adds_row : (view : View) (sort : SortSpec) (passes : Place → Bool) (shard : ℕ) (rows : List Row) (i : ℕ) (row : Row) (old them new : List Candidate) → i < length rows → row ≡ get_or rows i row
    → AddsPassing view sort passes (places_of_shard shard 0 (take i rows)) old them → AddsPassing view sort passes (record { shard = shard; rank = i; row = row } ∷ []) them new
    → AddsPassing view sort passes (places_of_shard shard 0 (take (i + 1) rows)) old new
adds_row view sort passes shard rows i row old them new less is adds next =
    let place : Place = record { shard = shard; rank = i; row = row } in
    let places : List Place = places_of_shard shard 0 (take i rows) in
    let more : places_of_shard shard 0 (take (i + 1) rows) ≡ places ++ place ∷ [] =
    ap (places_of_shard shard 0) (take_more rows i row less ∙ ap (λ it. take i rows ++ it ∷ []) (sym is))
    ∙ places_of_shard-push shard 0 (take i rows) row
    ∙ ap (λ n. places ++ record { shard = shard; rank = n; row = row } ∷ []) (omega (arith, length-take-le i rows (omega arith))) in
    subst (λ (all : List Place). AddsPassing view sort passes all old new) (sym more) (adds_then view sort passes places (place ∷ []) old them new adds next)

-- the step of a loop over the shards
pub adds_shard : (view : View) (sort : SortSpec) (passes : Place → Bool) (shards : List (List Row)) (i : ℕ) (rows : List Row) (old new : List Candidate) → i < length shards → rows ≡ get_or shards i rows
    → AreCandidates view sort (filter passes (places_from 0 (take i shards))) old → AddsPassing view sort passes (places_of_shard i 0 rows) old new
    → AreCandidates view sort (filter passes (places_from 0 (take (i + 1) shards))) new
adds_shard view sort passes shards i rows old new less is was adds =
    let front = places_from 0 (take i shards) in
    let rest = places_of_shard i 0 rows in
    let more : places_from 0 (take (i + 1) shards) ≡ front ++ rest =
    ap (places_from 0) (take_more shards i rows less ∙ ap (λ it. take i shards ++ it ∷ []) (sym is))
    ∙ places_from-push 0 (take i shards) rows
    ∙ ap (λ n. front ++ places_of_shard n 0 rows) (omega (arith, length-take-le i shards (omega arith))) in
    subst (λ (all : List Place). AreCandidates view sort all new) (sym (ap (filter passes) more ∙ filter-append passes front rest)) (adds (filter passes front) was)

-- where none of a shard's rows passes, none of its places does
pub none_pass : (passes : Place → Bool) (shard rank : ℕ) (rows : List Row) → ((k : ℕ) → All (λ (row : Row). passes (record { shard = shard; rank = k; row = row }) ≡ false) rows)
    → filter passes (places_of_shard shard rank rows) ≡ []
none_pass passes shard rank [] all = refl
none_pass passes shard rank (row ∷ rows) all =
    let fails : ℕ → Row → Type 0 = λ (k : ℕ) (row : Row). passes (record { shard = shard; rank = k; row = row }) ≡ false in
    let place : Place = record { shard = shard; rank = rank; row = row } in
    let others = filter passes (places_of_shard shard (rank + 1) rows) in
    ap (λ b. cond b (place ∷ others) others) (All-head (fails rank) row rows (all rank))
    ∙ none_pass passes shard (rank + 1) rows (λ k. All-tail (fails k) row rows (all k))

-- no place of a shard passes that the slice has nothing of
pub none_had : (view : View) (query : Query) (slice : Option Slice) (shard : ℕ) (rows : List Row) → ((rank : ℕ) → false ≡ is_had (length view.shards) slice shard rank)
    → filter (is_wanted view query slice) (places_of_shard shard 0 rows) ≡ []
none_had view query slice shard rows none =
    none_pass (is_wanted view query slice) shard 0 rows (λ k i d less. ap (λ b. b && matches view.mapping (get_or rows i d).values query) (sym (none k)))

never : (b : Bool) → (b && false) ≡ false
never true = refl
never false = refl

-- nor of one whose rows don't match
pub none_match : (view : View) (query : Query) (slice : Option Slice) (shard : ℕ) (rows : List Row) → All (λ (row : Row). IsFalse (matches view.mapping row.values query)) rows
    → filter (is_wanted view query slice) (places_of_shard shard 0 rows) ≡ []
none_match view query slice shard rows all =
    none_pass (is_wanted view query slice) shard 0 rows (λ k i d less.
    ap (λ b. is_had (length view.shards) slice shard k && b) (all i d less) ∙ never (is_had (length view.shards) slice shard k))

-- the bounds of the shard that is read are those of its rows
pub bounded_at : (view : ViewRef) (i : ℕ) (shard : ShardRef) → AreBounded view → i < length view.shards.now → shard ≡ get_or view.shards.now i shard
    → shard.bounds.now ≡ bounds_of view.mapping.now shard.rows.now
bounded_at view i shard bounded less is =
    let mapping = view.mapping.now in
    let shards = view.shards.now in
    let lists = map (λ (it : ShardRef). it.rows.now) shards in
    let many : i < length lists = omega (arith, length-map shards (λ (it : ShardRef). it.rows.now)) in
    ap (λ (it : ShardRef). it.bounds.now) is
    ∙ sym (get_or-map (λ (it : ShardRef). it.bounds.now) shards i shard shard.bounds.now less)
    ∙ ap (λ them. get_or them i shard.bounds.now) bounded
    ∙ get_or-map (bounds_of mapping) lists i shard.rows.now shard.bounds.now many
    ∙ ap (bounds_of mapping) (get_or-map (λ (it : ShardRef). it.rows.now) shards i shard shard.rows.now less ∙ sym (ap (λ (it : ShardRef). it.rows.now) is))
