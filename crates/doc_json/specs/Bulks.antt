-- The items of a bulk: lines of JSON, each with its line feed.
use Rattle.std.specs.Prelude.{ℕ, ◌+◌, ◌-◌, ◌≤◌, ◌==◌, Bool, true, false, if◌then◌else◌, List, [], ◌∷◌, length, take, drop, position, Option, Some, None, option_map, option_and_then, ok_or, Result, Ok, Err, codes}
use Rattle.serde_json.specs.Data.{Data}
use Rattle.serde_json.specs.Find.{as_str, get}
use Rattle.doc_json.specs.declared.bulk.ActionKind.{ActionKind}
use Rattle.doc_json.specs.declared.bulk.ActionKind.TheVariants as kind
use Rattle.doc_json.specs.declared.bulk.BulkAction.{BulkAction}
use Rattle.doc_json.specs.declared.bulk.BulkChange.{BulkChange}
use Rattle.doc_json.specs.declared.bulk.BulkChange.TheVariants.{Put, Remove}
use Rattle.doc_json.specs.declared.bulk.BulkItem.{BulkItem}
use Rattle.doc_json.specs.declared.bulk.Line.{Line}
use Rattle.doc_json.specs.declared.fault.BodyFault.{BodyFault}
use Rattle.doc_json.specs.declared.fault.BodyFault.TheVariants.{Shape}
use Rattle.doc_json.specs.Json.{data_of, form_then, is_form, json_then, only_member}

-- so many bytes of the rest, unless none or nothing is told
abbrev pub line_in : Option ℕ → List ℕ → Option (List ℕ)
line_in None rest = None
line_in (Some len) rest = if len == 0 then None else Some (take len rest)

-- the line that begins at a place and isn't empty, without its line feed
unfoldable pub line_at : List ℕ → ℕ → Option (List ℕ)
line_at body at = line_in (position (λ b. b == 10) (drop at body)) (drop at body)

-- the place after that line and its line feed
abbrev pub line_after : ℕ → List ℕ → ℕ
line_after at line = at + length line + 1

-- from where to where a line stands that begins there
abbrev pub place_of : ℕ → List ℕ → Line
place_of at line = record { from = at; to = at + length line }

-- the line that stands there
abbrev pub text_of : List ℕ → Line → List ℕ
text_of body line = take (line.to - line.from) (drop line.from body)

abbrev pub LineLiesIn : List ℕ → Line → Type 0
LineLiesIn body line = (line.from ≤ line.to) × (line.to ≤ length body)

-- an object of one member: `index`, which puts, or `delete`, with its target
abbrev pub verb_in : Option Data → Option Data → Option (Bool × Data)
verb_in (Some target) deleted = Some (true, target)
verb_in None (Some target) = Some (false, target)
verb_in None None = None

unfoldable pub verb_of : Data → Option (Bool × Data)
verb_of value = verb_in (only_member (codes "index") value) (only_member (codes "delete") value)

-- the index that is named, or else the one that was handed in
abbrev pub index_in : Option (List ℕ) → Option Data → Option (List ℕ)
index_in given None = given
index_in given (Some name) = as_str name

-- the index and the id of a target, which has nothing else
abbrev pub target_in : Option (List ℕ) → Bool × Data → Option (Bool × List ℕ × List ℕ)
target_in given verb =
    if is_form (codes "_index" ∷ codes "_id" ∷ []) verb.1
    then option_and_then (λ id. option_map (λ index. (verb.0, index, id)) (index_in given (get (codes "_index") verb.1)))
    (option_and_then as_str (get (codes "_id") verb.1))
    else None

-- what a line says: whether it puts, the index and the id
unfoldable pub target_of : Option (List ℕ) → Data → Option (Bool × List ℕ × List ℕ)
target_of given value = option_and_then (target_in given) (verb_of value)

-- a put takes the next line
unfoldable pub kind_at : Bool → List ℕ → ℕ → Option (ActionKind × ℕ)
kind_at true body at = option_map (λ line. (kind.Put (place_of at line), line_after at line)) (line_at body at)
kind_at false body at = Some (kind.Remove, at)

abbrev pub action_by : List ℕ → ℕ → Bool × List ℕ × List ℕ → Option BulkAction
action_by body at target =
    option_map (λ found. record { index = target.1; id = target.2; kind = found.0; next = found.1 }) (kind_at target.0 body at)

abbrev pub action_on : Option (List ℕ) → List ℕ → ℕ → List ℕ → Result (Option BulkAction) BodyFault
action_on given body at line =
    json_then (data_of line) (λ value. ok_or (option_map Some (option_and_then (action_by body (line_after at line)) (target_of given value))) Shape)

-- the action that begins at a place, if the body doesn't end there
unfoldable pub action_at : Option (List ℕ) → List ℕ → ℕ → Result (Option BulkAction) BodyFault
action_at given body at = if at == length body then Ok None else form_then (line_at body at) (action_on given body at)

-- ---- with the documents' lines

abbrev pub KindLiesIn : List ℕ → ActionKind → Type 0
KindLiesIn body (kind.Put line) = LineLiesIn body line
KindLiesIn body kind.Remove = Unit {0}

-- the document's line lies in the body
abbrev pub LiesIn : List ℕ → BulkAction → Type 0
LiesIn body action = KindLiesIn body action.kind

-- a put has the line as it stands
abbrev pub change_of : List ℕ → ActionKind → BulkChange
change_of body (kind.Put line) = Put (text_of body line)
change_of body kind.Remove = Remove

-- the item that an action is
abbrev pub item_of : List ℕ → BulkAction → BulkItem
item_of body action = record { index = action.index; id = action.id; change = change_of body action.kind; next = action.next }

abbrev pub item_by : List ℕ → Result (Option BulkAction) BodyFault → Result (Option BulkItem) BodyFault
item_by body (Ok found) = Ok (option_map (item_of body) found)
item_by body (Err fault) = Err fault

-- the item that begins at a place, if the body doesn't end there
unfoldable pub item_at : Option (List ℕ) → List ℕ → ℕ → Result (Option BulkItem) BodyFault
item_at given body at = item_by body (action_at given body at)
