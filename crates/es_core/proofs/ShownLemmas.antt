-- The views that are kept of shards, and what a publish makes of shards and views.
use Rattle.std.proofs.Common.{◌≡◌, ◌≢◌, ℕ, ◌<◌, ◌≤◌, Bool, cond, List, [], length, map, set, get_or, slice_get, Option, Some, None, refl, ap, sym, subst, subst₂, ◌∙◌, ⊎_elim, arith, length-set}
use Rattle.std.specs.declared.sync.Arc.{Arc}
use Rattle.std.proofs.lemmas.Bool.{cases_eq}
use Rattle.std.proofs.lemmas.Grind.{get_or-set_at}
use Rattle.std.proofs.lemmas.List.{get_or-set_other, length-map, map-set}
use Rattle.std.proofs.lemmas.Option.{slice_get_read}
use Rattle.es_types.specs.declared.mapping.Field.{Field}
use Rattle.es_types.specs.declared.row.Row.{Row}
use Rattle.context_book.specs.declared.shard_view.ShardView.{ShardView}
use Rattle.list_machine.specs.Rows.{Shard}
use Rattle.list_machine.specs.Changes.{publish_at, publish_in, publish_of}
use Rattle.es_core.specs.Shards.{AreShown, IsShown, applies, views_left}

-- the rows of each shard
abbrev pub rows_in : List Shard → List (List Row)
rows_in shards = map (λ (shard : Shard). shard.rows) shards

-- at one place there are other rows and another view of them
shown_set : {Z : Type 0} (mapping : List Field) (rows : List (List Row)) (views : List (Option (Arc ShardView Z))) (at : ℕ) (new : List Row) (view : Option (Arc ShardView Z))
    → at < length rows → AreShown mapping rows views → IsShown mapping new view → AreShown mapping (set rows at new) (set views at view)
shown_set {Z} mapping rows views at new view less shown is = (
  length-set views at view ∙ shown.0 ∙ sym (length-set rows at new),
  λ k.
      ⊎_elim
      (λ (same : k ≡ at).
      subst₂ (λ (them : List Row) (it : Option (Arc ShardView Z)). IsShown mapping them it)
      (sym (get_or-set_at rows at k new [] same less)) (sym (get_or-set_at views at k view None same (omega (arith, shown.0)))) is)
      (λ (other : k ≢ at).
      subst₂ (λ (them : List Row) (it : Option (Arc ShardView Z)). IsShown mapping them it)
      (sym (get_or-set_other rows at k new [] other)) (sym (get_or-set_other views at k view None other)) (shown.1 k))
      (cases_eq k at),
)

-- a shard changes, and its view goes
pub shown_gone : {Z : Type 0} (mapping : List Field) (shards : List Shard) (views : List (Option (Arc ShardView Z))) (at : ℕ) (shard : Shard)
    → AreShown mapping (rows_in shards) views → at < length shards → AreShown mapping (rows_in (set shards at shard)) (set views at None)
shown_gone {Z} mapping shards views at shard shown less =
    let none : Option (Arc ShardView Z) = None in
    subst (λ (rows : List (List Row)). AreShown mapping rows (set views at none)) (sym (map-set (λ (it : Shard). it.rows) shards at shard))
    (shown_set mapping (rows_in shards) views at shard.rows none (omega (arith, less, length-map shards (λ (it : Shard). it.rows))) shown tt)

-- a publish of the shard that is read
pub published : (shards : List Shard) (at upto : ℕ) (old new : Shard) → at < length shards → old ≡ get_or shards at old → new ≡ publish_of old upto
    → set shards at new ≡ publish_in shards at upto
published shards at upto old new less is made =
    ap (set shards at) made ∙ sym (ap (publish_at shards at upto) (slice_get_read shards (length shards) at old refl less is))

-- which views are left, by whether an operation of it was applied
pub left_by : {V : Type 0} (views : List (Option V)) (shards : List Shard) (at upto : ℕ) (old : Shard) (applied : Bool) → at < length shards → old ≡ get_or shards at old
    → applies old upto ≡ applied → views_left views at upto (slice_get shards at) ≡ cond applied (set views at None) views
left_by views shards at upto old applied less is says =
    ap (views_left views at upto) (slice_get_read shards (length shards) at old refl less is) ∙ ap (λ b. cond b (set views at None) views) says
