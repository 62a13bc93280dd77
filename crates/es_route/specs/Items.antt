-- The items of a bulk, and what each asks for (Elasticsearch, "Bulk").
use Rattle.std.specs.Prelude.{◌≡◌, ℕ, zero, suc, List, [], ◌∷◌, length, map, All, Option, Some, None, Result, Ok, Err}
use Rattle.es_types.specs.declared.doc.Doc.{Doc}
use Rattle.doc_json.specs.declared.fault.BodyFault.{BodyFault}
use Rattle.doc_json.specs.declared.bulk.BulkAction.{BulkAction}
use Rattle.doc_json.specs.declared.bulk.BulkItem.{BulkItem}
use Rattle.doc_json.specs.declared.bulk.BulkChange.{BulkChange}
use Rattle.doc_json.specs.declared.bulk.BulkChange.TheVariants.{Put, Remove}
use Rattle.doc_json.specs.Documents.{doc_of}
use Rattle.doc_json.specs.Bulks.{LiesIn, action_at, item_at, item_of}
use Rattle.list_machine.specs.Objects.{IsObject}
use Rattle.list_machine.specs.declared.event.Change.{Change}
use Rattle.list_machine.specs.declared.event.Change.TheVariants as change
use Rattle.list_machine.specs.declared.event.Event.{Event}
use Rattle.list_machine.specs.declared.event.Event.TheVariants as event
use Rattle.reply_json.specs.declared.fault.RestFault.{RestFault}
use Rattle.es_route.specs.Answers.{and_then}
use Rattle.es_route.specs.Limits.{body_fault, named}

abbrev pub onto : {A : Type 0} → A → Result (List A) BodyFault → Result (List A) BodyFault
onto first (Ok rest) = Ok (first ∷ rest)
onto first (Err fault) = Err fault

abbrev pub and_more : {A : Type 0} → (A → ℕ) → (ℕ → Result (List A) BodyFault) → Result (Option A) BodyFault → Result (List A) BodyFault
and_more next more (Err fault) = Err fault
and_more next more (Ok None) = Ok []
and_more next more (Ok (Some first)) = onto first (more (next first))

-- what stands from a byte of a body on, at most so many, where `there` says what stands at a byte and `next` where the next one does
abbrev pub all_from : {A : Type 0} → (A → ℕ) → (ℕ → Result (Option A) BodyFault) → ℕ → ℕ → Result (List A) BodyFault
all_from next there zero at = Ok []
all_from next there (suc most) at = and_more next (all_from next there most) (there at)

-- all items of a body, or the first fault: each is a byte long at least
unfoldable pub items_of : Option (List ℕ) → List ℕ → Result (List BulkItem) BodyFault
items_of index body = all_from (λ item. item.next) (item_at index body) (suc (length body)) 0

-- and their actions
unfoldable pub actions_of : Option (List ℕ) → List ℕ → Result (List BulkAction) BodyFault
actions_of index body = all_from (λ action. action.next) (action_at index body) (suc (length body)) 0

-- the items that actions are, with the lines of their documents
abbrev pub items_with : List ℕ → List BulkAction → List BulkItem
items_with body actions = map (item_of body) actions

-- these actions are the items of the body, and the lines of their documents lie in it
pub record AreActions (index : Option (List ℕ)) (body : List ℕ) (actions : List BulkAction) : Type 0 where
  pub items : items_of index body ≡ Ok (items_with body actions)
  pub within : All (LiesIn body) actions

abbrev pub items_in : Result (List BulkItem) BodyFault → List BulkItem
items_in (Ok items) = items
items_in (Err fault) = []

-- what a body has, or the fault of the first that isn't one
abbrev pub checked : {A : Type 0} → Result A BodyFault → Result A RestFault
checked (Ok read) = Ok read
checked (Err fault) = Err (body_fault fault)

abbrev pub put_change : Result Doc BodyFault → Result Change RestFault
put_change (Ok doc) = Ok (change.Put doc)
put_change (Err fault) = Err (body_fault fault)

abbrev pub read_change : BulkChange → Result Change RestFault
read_change (Put line) = put_change (doc_of line)
read_change Remove = Ok change.Remove

abbrev pub write_with : List ℕ → List ℕ → Result Change RestFault → Result Event RestFault
write_with index id (Ok change) = and_then (named index id) (λ it. Ok (event.Write it.0 it.1 change))
write_with index id (Err fault) = Err fault

-- the Write of an item, or why it is refused by itself
abbrev pub write_of : BulkItem → Result Event RestFault
write_of item = write_with item.index item.id (read_change item.change)

-- a put has an object
abbrev pub PutsObjectChange : Change → Type 0
PutsObjectChange (change.Put doc) = IsObject doc.source
PutsObjectChange change.Remove = Unit {0}
