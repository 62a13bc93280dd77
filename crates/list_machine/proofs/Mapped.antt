-- Each row and each waiting put has the values of its mapping.
use Rattle.std.proofs.Common.{◌≡◌, ℕ, inl, inr, List, length, All, Result, Ok, Err, bytes_eq, refl, sym, subst}
use Rattle.std.proofs.lemmas.List.Elements.{All-map, All-nil, All-push, All-replicate, All-set, All-weaker}
use Rattle.es_types.specs.declared.doc.Member.{Member}
use Rattle.es_types.specs.declared.fit.DocFault.{DocFault}
use Rattle.es_types.specs.declared.mapping.Field.{Field}
use Rattle.es_types.specs.declared.row.Op.{Op}
use Rattle.es_types.specs.declared.row.Op.TheVariants.{Put as PutOp, Remove as RemoveOp}
use Rattle.es_types.specs.declared.row.Row.{Row}
use Rattle.es_types.specs.declared.row.Value.{Value}
use Rattle.es_types.specs.Fields.{fit}
use Rattle.es_types.specs.Values.{AreValuesOf}
use Rattle.es_types.proofs.FitKinds.{fit_kinds}
use Rattle.list_machine.specs.declared.event.Event.{Event}
use Rattle.list_machine.specs.declared.event.Event.TheVariants.{Create, Write, Seal, Publish, OpenPit, Search, Close, Quiet}
use Rattle.list_machine.specs.declared.event.Change.TheVariants.{Put, Remove}
use Rattle.list_machine.specs.Rows.{Shard}
use Rattle.list_machine.specs.Views.{View}
use Rattle.list_machine.specs.State.{HasValues, HaveValues, State, Index, Context, PutsValues, empty_shard, pit, view_of}
use Rattle.list_machine.specs.Step.{put_op}
use Rattle.list_machine.proofs.ShardLemmas.{publish_All}
use Rattle.list_machine.proofs.ContextMoves.{kept_views}
use Rattle.list_machine.proofs.Moves.{find_All, Changed, IsOpAt, IsOpIn, MovesContexts, MovesIndexes, made, moves_indexes, slice_get_All}

-- all that an index has has the values of its mapping
abbrev pub HaveAll : Index → Type 0
HaveAll index = All (HasValues index.mapping) index.shards

-- so has all that a view has
abbrev pub ViewHas : View → Type 0
ViewHas view = All (HaveValues view.mapping) view.shards

-- the operation of a put has the values that its document gives the mapping
put_op_values : (mapping : List Field) (members : List Member) (id source : List ℕ) (r : Result (List Value) DocFault) (op : Op) → fit mapping members ≡ r → put_op id source r ≡ Ok op → PutsValues mapping op
put_op_values mapping members id source (Ok values) op is e =
    let same : PutOp id source values ≡ op = cc in subst (PutsValues mapping) same (fit_kinds mapping members values is)
put_op_values mapping members id source (Err fault) op is e = absurd (cc)

-- an operation that an event adds has the values of the mapping
op_values : (event : Event) (mapping : List Field) (op : Op) → IsOpIn event mapping op → PutsValues mapping op
op_values (Write index id (Put doc)) mapping op of = put_op_values mapping doc.members id doc.source (fit mapping doc.members) op refl of
op_values (Write index id Remove) mapping op of = let same : RemoveOp id ≡ op = cc (of) in subst (PutsValues mapping) same tt
op_values (Create index shards fields) mapping op of = absurd of
op_values (Seal index) mapping op of = absurd of
op_values (Publish index shard upto) mapping op of = absurd of
op_values (OpenPit index keep) mapping op of = absurd of
op_values (Search target request) mapping op of = absurd of
op_values (Close which) mapping op of = absurd of
op_values Quiet mapping op of = absurd of

-- a changed shard has values as before
changed_values : (event : Event) (mapping : List Field) (at shards : ℕ) (old new : Shard) → Changed (IsOpAt event mapping at shards) old new → HasValues mapping old → HasValues mapping new
changed_values event mapping at shards old new (inl c) h =
    subst (HasValues mapping) (sym c.3) (record { rows = h.rows; pending = All-push (PutsValues mapping) old.pending c.0 h.pending (op_values event mapping c.0 c.1.of) })
changed_values event mapping at shards old new (inr c) h =
    let all = publish_All (PutsValues mapping) (λ (row : Row). AreValuesOf mapping row.values) (λ number id source values of. of) old c.0 h.rows h.pending in
    subst (HasValues mapping) (sym c.2) (record { rows = all.0; pending = all.1 })

-- a new index has none that are not of its mapping
pub made_values : (name : List ℕ) (shards : ℕ) (mapping : List Field) → HaveAll (made name shards mapping)
made_values name shards mapping =
    All-replicate (HasValues mapping) shards empty_shard
    (record { rows = All-nil (λ (row : Row). AreValuesOf mapping row.values); pending = All-nil (PutsValues mapping) })

-- a move keeps the values of all indexes
pub moves_values : (event : Event) (old new : List Index) → MovesIndexes event old new → All HaveAll old → All HaveAll new
moves_values event =
    moves_indexes event HaveAll HaveAll (λ index has. has)
    (λ index at shard changed there changes has.
    All-set (HasValues index.mapping) index.shards at changed
    (changed_values event index.mapping at (length index.shards) shard changed changes (slice_get_All (HasValues index.mapping) index.shards at shard has there)) has)
    (λ name shards mapping creates few. made_values name shards mapping)

-- the view of an index has the values of its mapping
view_values : (index : Index) → HaveAll index → ViewHas (view_of index)
view_values index has =
    All-map (HaveValues index.mapping) (λ (shard : Shard). shard.rows) index.shards
    (All-weaker (HasValues index.mapping) (λ (shard : Shard). HaveValues index.mapping shard.rows) (λ shard it. it.rows) index.shards has)

-- a move keeps the values of all views
pub moves_view_values : (old new : State) → MovesContexts old new → All HaveAll old.indexes → All (λ (context : Context). ViewHas context.view) old.contexts → All (λ (context : Context). ViewHas context.view) new.contexts
moves_view_values old new (inl m) indexes h =
    subst (All (λ (context : Context). ViewHas context.view)) (sym m.contexts) (kept_views ViewHas m.to m.keeps old.contexts h)
moves_view_values old new (inr m) indexes h =
    let was : HaveAll m.index = find_All HaveAll (λ (index : Index). bytes_eq index.name m.name) old.indexes m.index indexes m.there in
    subst (All (λ (context : Context). ViewHas context.view)) (sym m.contexts)
    (All-push (λ (context : Context). ViewHas context.view) old.contexts (pit old.next (view_of m.index) m.expiry) h (view_values m.index was))
