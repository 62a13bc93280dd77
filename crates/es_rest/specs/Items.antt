-- The items of a bulk: which Writes they ask for, and what their lines of the response say (Elasticsearch, "Bulk").
use Rattle.std.specs.Prelude.{ℕ, ◌||◌, Bool, true, false, bytes_eq, if◌then◌else◌, List, [], ◌∷◌, ◌++◌, unwrap_or, Result, Ok, Err}
use Rattle.doc_json.specs.declared.bulk.BulkItem.{BulkItem}
use Rattle.doc_json.specs.declared.bulk.BulkChange.{BulkChange}
use Rattle.doc_json.specs.declared.bulk.BulkChange.TheVariants.{Put, Remove}
use Rattle.list_machine.specs.declared.event.Event.{Event}
use Rattle.list_machine.specs.declared.event.Reply.{Reply}
use Rattle.list_machine.specs.declared.event.Reply.TheVariants as reply
use Rattle.reply_json.specs.declared.fault.RestFault.{RestFault}
use Rattle.reply_json.specs.declared.fault.RestFault.TheVariants as fault
use Rattle.reply_json.specs.declared.response.BulkLine.{BulkLine}
use Rattle.reply_json.specs.declared.response.BulkOutcome.{BulkOutcome}
use Rattle.reply_json.specs.declared.response.BulkOutcome.TheVariants as outcome
use Rattle.es_route.specs.Items.{write_of}
use Rattle.es_rest.specs.declared.refusal.Named.TheVariants as named
use Rattle.es_rest.specs.Scripts.{is_refused, refusal}

abbrev pub write_and : Result Event RestFault → List Event → List Event
write_and (Ok event) events = event ∷ events
write_and (Err fault) events = events

-- the Writes of the items that aren't refused by themselves
abbrev pub writes_of : List BulkItem → List Event
writes_of [] = []
writes_of (item ∷ items) = write_and (write_of item) (writes_of items)

-- ---- what the response says of it

abbrev pub is_remove : BulkChange → Bool
is_remove (Put line) = false
is_remove Remove = true

abbrev pub outcome_of : List ℕ → Reply → BulkOutcome
outcome_of index (reply.Wrote result seq) = outcome.Wrote result seq
outcome_of index other = outcome.Fault (unwrap_or (refusal (named.Index index) other) fault.NotBuilt)

abbrev pub line_of : BulkItem → BulkOutcome → BulkLine
line_of item outcome = record { remove = is_remove item.change; index = item.index; id = item.id; outcome = outcome }

abbrev pub line_and : BulkItem → (List Reply → List BulkLine) → Result Event RestFault → List Reply → List BulkLine
line_and item more (Err fault) replies = line_of item (outcome.Fault fault) ∷ more replies
line_and item more (Ok event) (said ∷ replies) = line_of item (outcome_of item.index said) ∷ more replies
line_and item more (Ok event) [] = more []

-- the lines of these items, by the replies to their Writes
abbrev pub lines_of : List BulkItem → List Reply → List BulkLine
lines_of [] replies = []
lines_of (item ∷ items) replies = line_and item (lines_of items) (write_of item) replies

-- ---- the indexes that it changed

abbrev pub has_name : List ℕ → List (List ℕ) → Bool
has_name name [] = false
has_name name (other ∷ names) = bytes_eq other name || has_name name names

-- the names with one more, each where it first stands
abbrev pub with_name : List (List ℕ) → List ℕ → List (List ℕ)
with_name names name = if has_name name names then names else names ++ name ∷ []

abbrev pub with_index : List (List ℕ) → List ℕ → Reply → List (List ℕ)
with_index names index said = if is_refused said then names else with_name names index

abbrev pub changed_and : List (List ℕ) → List ℕ → (List (List ℕ) → List Reply → List (List ℕ)) → Result Event RestFault → List Reply → List (List ℕ)
changed_and names index more (Err fault) replies = more names replies
changed_and names index more (Ok event) (said ∷ replies) = more (with_index names index said) replies
changed_and names index more (Ok event) [] = more names []

-- the indexes of the items that were taken, after those that were before
abbrev pub changed_by : List (List ℕ) → List BulkItem → List Reply → List (List ℕ)
changed_by names [] replies = names
changed_by names (item ∷ items) replies = changed_and names item.index (λ more. changed_by more items) (write_of item) replies
