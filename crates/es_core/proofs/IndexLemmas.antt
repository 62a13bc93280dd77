-- Where the indexes of a catalog stand, and what a seal and a search of one are answered.
use Rattle.std.proofs.Common.{◌≡◌, ℕ, ◌+◌, ◌≤◌, Bool, true, false, cond, ltb, List, [], ◌∷◌, ◌++◌, length, map, set, get_or, Option, Some, None, Result, Ok, Err, IfOk, sym, refl, ap, ap₂, subst, ◌∙◌, ⊎_elim, arith, length-set}
use Rattle.std.specs.BTreeMap.{BTreeMap, get_by_text}
use Rattle.std.specs.Option.{option_map, option_or}
use Rattle.std.specs.List.{position, position_from}
use Rattle.std.specs.Prelude.{String}
use Rattle.std.specs.Str.{bytes_eq}
use Rattle.std.proofs.lemmas.Bool.{cases_Bool}
use Rattle.std.proofs.lemmas.Iterator.Adapters.{position_from-zero}
use Rattle.std.proofs.lemmas.Slice.Eq.{bytes_eq-Decides}
use Rattle.std.proofs.lemmas.List.Elements.{All-head, All-tail}
use Rattle.std.proofs.lemmas.List.Folds.{position_or_len-set}
use Rattle.std.proofs.lemmas.Option.{get_or_from_slice_get, none-some, same_Some}
use Rattle.std.specs.Arc.{arc_value}
use Rattle.list_machine.specs.Changes.{Moves, write_in}
use Rattle.list_machine.specs.declared.event.Change.{Change}
use Rattle.list_machine.specs.declared.event.Event.TheVariants.{Search, Write}
use Rattle.list_machine.specs.declared.event.Target.TheVariants.{Index as Named}
use Rattle.list_machine.specs.declared.event.Reply.{Reply}
use Rattle.list_machine.specs.declared.page.request.SearchRequest.{SearchRequest}
use Rattle.list_machine.specs.Rows.{Shard, last_number}
use Rattle.list_machine.specs.Seen.Stores.{AreNumbered, most_entries}
use Rattle.list_machine.specs.State.{Index, State, index_of, view_of}
use Rattle.list_machine.specs.Step.{happen, search_index, search_reply}
use Rattle.list_machine.specs.Views.{View}
use Rattle.list_machine.proofs.IndexLemmas.{IsFound, found_at, holds_at, index_of-none, some_index, write_moves}
use Rattle.es_core.specs.declared.index.Index.{Index as Store}
use Rattle.es_core.specs.Indexes.{AllNumbered, Placed, index_seen, indexes_seen}
use Rattle.es_core.specs.Shards.{sealed}

-- ---- places

-- an index that is read at the place of a name is found by it
pub found_placed : {Y : Type 0} (places : BTreeMap (String Y) ℕ) (name : List ℕ) (stores : List Store) (at : ℕ) (store : Store) (place : Option ℕ)
    → Placed places stores → place ≡ get_by_text places name → place ≡ Some at → store ≡ get_or stores at store → IsFound index_seen name stores at store
found_placed places name stores at store place placed is some here =
    found_at index_seen name stores stores at store place refl (is ∙ placed name) some here

-- where a name has no place, no index has it
pub none_placed : {Y : Type 0} (places : BTreeMap (String Y) ℕ) (name : List ℕ) (stores : List Store) (place : Option ℕ) (indexes : List Index) → indexes_seen stores ≡ indexes
    → Placed places stores → place ≡ get_by_text places name → place ≡ None → index_of name indexes ≡ None
none_placed places name stores place indexes seen placed is none =
    ap (index_of name) (sym seen) ∙ index_of-none index_seen name stores stores place refl (is ∙ placed name) none

-- and where it has one, some index does
pub some_placed : {Y : Type 0} (places : BTreeMap (String Y) ℕ) (name : List ℕ) (stores : List Store) (at : ℕ) (place : Option ℕ) (indexes : List Index) → indexes_seen stores ≡ indexes
    → Placed places stores → place ≡ get_by_text places name → place ≡ Some at → (index : Index) × (index_of name indexes ≡ Some index)
some_placed places name stores at place indexes seen placed is some =
    let found = some_index index_seen name stores stores at place refl (is ∙ placed name) some in
    (found.0, ap (index_of name) (sym seen) ∙ found.1)

-- all stand where they stood where one changed, but not its name
pub placed_set : {Y : Type 0} (places : BTreeMap (String Y) ℕ) {name : List ℕ} {stores : List Store} {at : ℕ} {store : Store} → IsFound index_seen name stores at store
    → (new : Store) → new.name ≡ store.name → Placed places stores → Placed places (set stores at new)
placed_set places {stores = stores} {at = at} {store = store} found new like placed name =
    let named : Store → Bool = λ it. bytes_eq it.name name in
    let same : named new ≡ named (get_or stores at new) = ap (λ it. bytes_eq it name) (like ∙ ap (λ (it : Store). it.name) (sym (get_or_from_slice_get stores at store new found.stands))) in
    placed name ∙ sym (ap₂ (λ n place. cond (ltb place n) (Some place) None) (length-set stores at new) (position_or_len-set named stores at new new same))

-- the place of a test among a list and one element more
position_from-push : {X : Type 0} (p : X → Bool) (xs : List X) (x : X) (i : ℕ)
    → position_from p i (xs ++ x ∷ []) ≡ option_or (position_from p i xs) (cond (p x) (Some (i + length xs)) None)
position_from-push p [] x i = ap (λ n. cond (p x) (Some n) None) (omega arith)
position_from-push p (y ∷ ys) x i =
    elim (p y) as (λ b. cond b (Some i) (position_from p (i + 1) (ys ++ x ∷ []))
    ≡ option_or (cond b (Some i) (position_from p (i + 1) ys)) (cond (p x) (Some (i + length (y ∷ ys))) None))
    [ true ↦ refl | false ↦ position_from-push p ys x (i + 1) ∙ ap (λ n. option_or (position_from p (i + 1) ys) (cond (p x) (Some n) None)) (omega arith) ]

-- the same from the start on
position-push : {X : Type 0} (p : X → Bool) (xs : List X) (x : X) → position p (xs ++ x ∷ []) ≡ option_or (position p xs) (cond (p x) (Some (length xs)) None)
position-push p xs x =
    let many : 0 + length xs ≡ length xs = omega arith in
    position_from-zero p (xs ++ x ∷ [])
    ∙ position_from-push p xs x 0
    ∙ ap₂ (λ place n. option_or place (cond (p x) (Some n) None)) (sym (position_from-zero p xs)) many

-- a name that no index has is at no place
none_from : (name : List ℕ) (stores : List Store) (i : ℕ) → index_of name (indexes_seen stores) ≡ None → position_from (λ (it : Store). bytes_eq it.name name) i stores ≡ None
none_from name [] i none = refl
none_from name (store ∷ stores) i none =
    elim (bytes_eq store.name name) as (λ b. cond b (Some (index_seen store)) (index_of name (indexes_seen stores)) ≡ None
    → cond b (Some i) (position_from (λ (it : Store). bytes_eq it.name name) (i + 1) stores) ≡ None)
    [ true ↦ λ some. absurd (none-some (index_seen store) (sym some)) | false ↦ λ rest. none_from name stores (i + 1) rest ] none

or_none : (o : Option ℕ) → o ≡ option_or o None
or_none None = refl
or_none (Some n) = refl

-- all stand at their places where one of a new name is put after them, and its place is entered
pub placed_push : {Y : Type 0} (old new : BTreeMap (String Y) ℕ) (stores : List Store) (store : Store) → Placed old stores → index_of store.name (indexes_seen stores) ≡ None
    → ((name : List ℕ) → get_by_text new name ≡ cond (bytes_eq store.name name) (Some (length stores)) (get_by_text old name))
    → Placed new (stores ++ store ∷ [])
placed_push old new stores store placed free entered name =
    let named : Store → Bool = λ it. bytes_eq it.name name in
    let made : Bool → Option ℕ → Option ℕ = λ b place. cond b (Some (length stores)) place in
    let whole : Bool → Option ℕ → Option ℕ = λ b place. option_or place (cond b (Some (length stores)) None) in
    entered name
    ∙ ap (made (named store)) (placed name)
    ∙ ⊎_elim
    (λ (same : named store ≡ true).
    let none : position named stores ≡ None =
    position_from-zero named stores
    ∙ none_from name stores 0 (subst (λ (it : List ℕ). index_of it (indexes_seen stores) ≡ None) ((bytes_eq-Decides store.name name).0 same) free) in
    ap₂ made same none ∙ sym (ap₂ whole same none))
    (λ (other : named store ≡ false).
    ap (λ b. made b (position named stores)) other ∙ or_none (position named stores) ∙ sym (ap (λ b. whole b (position named stores)) other))
    (cases_Bool (named store))
    ∙ sym (position-push named stores store)

-- ---- answers

-- a write at the found index
pub write_seen : {name : List ℕ} {stores : List Store} {at : ℕ} {store : Store} → IsFound index_seen name stores at store → (indexes : List Index) → indexes_seen stores ≡ indexes
    → (id : List ℕ) (change : Change) (new : Store) → index_seen new ≡ record (index_seen store) { shards = new.shards.items } → {E : Type 0} (r : Result Reply E)
    → IfOk r (λ reply. AreNumbered most_entries store.shards.items → write_in (arc_value store.mapping) store.shards.items id change ≡ (new.shards.items, reply))
    → IfOk r (λ reply. AllNumbered indexes → Moves (λ state. happen state (Write name id change)) indexes (indexes_seen (set stores at new)) reply)
write_seen {name} {stores} {at} {store} found indexes seen id change new like (Err e) is = tt
write_seen {name} {stores} {at} {store} found indexes seen id change new like (Ok reply) is = λ numbered.
    subst (λ (them : List Index). Moves (λ state. happen state (Write name id change)) them (indexes_seen (set stores at new)) reply) seen
    (write_moves found id change new like reply (is (holds_at found (λ (index : Index). AreNumbered most_entries index.shards) (subst AllNumbered (sym seen) numbered))))

-- numbers that are small fit
pub sealed_all : (shards : List Shard) → AreNumbered most_entries shards → map sealed shards ≡ map last_number shards
sealed_all [] numbered = refl
sealed_all (shard ∷ shards) numbered =
    let small : last_number shard ≤ most_entries = All-head (λ (it : Shard). last_number it ≤ most_entries) shard shards numbered in
    let first : sealed shard ≡ last_number shard = omega arith in
    ap₂ (λ n ns. n ∷ ns) first (sealed_all shards (All-tail (λ (it : Shard). last_number it ≤ most_entries) shard shards numbered))

-- what a value that is made of what was found says of that
pub mapped_some : {A B : Type 0} (f : A → B) (o : Option A) (b : B) → Some b ≡ option_map f o → (a : A) × (o ≡ Some a) × (b ≡ f a)
mapped_some f None b is = absurd (none-some b (sym is))
mapped_some f (Some a) b is = (a, refl, same_Some b (f a) is)

pub mapped_none : {A B : Type 0} (f : A → B) (o : Option A) → None ≡ option_map f o → o ≡ None
mapped_none f None is = refl
mapped_none f (Some a) is = absurd (none-some (f a) is)

-- a search of an index whose view was found, where nothing seen changes
pub search_moves : (name : List ℕ) (request : SearchRequest) (old new : List Index) (view : View) (reply : Reply) → Some view ≡ option_map view_of (index_of name old)
    → new ≡ old → reply ≡ search_reply view request → Moves (λ state. happen state (Search (Named name) request)) old new reply
search_moves name request old new view reply finds same is state =
    let found = mapped_some view_of (index_of name old) view finds in
    let seen : State = record state { indexes = old } in
    let replied : Reply → State × Reply = λ it. (seen, it) in
    let with_indexes : List Index → State × Reply = λ them. (record state { indexes = them }, reply) in
    ap (λ it. search_index seen request it) found.1
    ∙ ap replied (sym (is ∙ ap (λ (it : View). search_reply it request) found.2))
    ∙ ap with_indexes (sym same)
