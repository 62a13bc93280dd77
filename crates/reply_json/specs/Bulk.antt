-- What became of the items of a bulk, as JSON (RFC 8259).
use Rattle.std.specs.Prelude.{ℕ, ◌-◌, Bool, true, false, if◌then◌else◌, List, [], ◌∷◌, ◌++◌, codes, decimal}
use Rattle.std.specs.List.{list_any}
use Rattle.json.specs.Print.{quoted}
use Rattle.list_machine.specs.declared.event.Wrote.{Wrote}
use Rattle.reply_json.specs.declared.fault.RestFault.{RestFault}
use Rattle.reply_json.specs.declared.response.BulkLine.{BulkLine}
use Rattle.reply_json.specs.declared.response.BulkOutcome.{BulkOutcome}
use Rattle.reply_json.specs.declared.response.BulkOutcome.TheVariants.{Wrote as Accepted, Fault as Refused}
use Rattle.reply_json.specs.Documents.{result_word, wrote_status}
use Rattle.reply_json.specs.Faults.{cause_members, fault_status}
use Rattle.reply_json.specs.Pieces.{comma_if, joined}

abbrev pub action_word : Bool → List ℕ
action_word remove = if remove then codes "delete" else codes "index"

-- the members of an item that was carried out
unfoldable pub accepted_members : Wrote → ℕ → List ℕ
accepted_members result seq =
    joined (codes "\"result\":\"" ∷ result_word result ∷ codes "\",\"_seq_no\":" ∷ decimal (seq - 1) ∷
    codes ",\"status\":" ∷ decimal (wrote_status result) ∷ [])

-- the members of an item that was refused
unfoldable pub refused_members : RestFault → List ℕ
refused_members fault =
    joined (codes "\"status\":" ∷ decimal (fault_status fault) ∷ codes ",\"error\":{" ∷ cause_members fault ∷
    codes "}" ∷ [])

abbrev pub outcome_members : BulkOutcome → List ℕ
outcome_members (Accepted result seq) = accepted_members result seq
outcome_members (Refused fault) = refused_members fault

unfoldable pub line_text : BulkLine → List ℕ
line_text line =
    joined (codes "{\"" ∷ action_word line.remove ∷ codes "\":{\"_index\":" ∷ quoted line.index ∷
    codes ",\"_id\":" ∷ quoted line.id ∷ codes "," ∷ outcome_members line.outcome ∷ codes "}}" ∷ [])

abbrev pub lines_text : Bool → List BulkLine → List ℕ
lines_text later [] = []
lines_text later (line ∷ lines) = comma_if later ++ (line_text line ++ lines_text true lines)

abbrev pub is_refused : BulkOutcome → Bool
is_refused (Accepted result seq) = false
is_refused (Refused fault) = true

-- whether an item was refused
abbrev pub has_errors : List BulkLine → Bool
has_errors lines = list_any (λ line. is_refused line.outcome) lines

abbrev pub truth_word : Bool → List ℕ
truth_word holds = if holds then codes "true" else codes "false"

unfoldable pub bulk_text : List BulkLine → List ℕ
bulk_text lines =
    joined (codes "{\"took\":0,\"errors\":" ∷ truth_word (has_errors lines) ∷ codes ",\"items\":[" ∷
    lines_text false lines ∷ codes "]}" ∷ [])
