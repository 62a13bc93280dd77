-- Answers to searches, as JSON (RFC 8259).
use Rattle.std.specs.Prelude.{ℕ, ◌==◌, Bool, true, false, if◌then◌else◌, List, [], ◌∷◌, ◌++◌, Option, Some, None, codes, decimal}
use Rattle.std.specs.Fmt.{signed_decimal}
use Rattle.json.specs.Print.{quoted}
use Rattle.es_types.specs.declared.row.Value.{Value}
use Rattle.es_types.specs.declared.row.Value.TheVariants.{Key, Long, Missing}
use Rattle.list_machine.specs.declared.page.request.Answer.{Answer}
use Rattle.list_machine.specs.declared.page.request.Counts.{Counts}
use Rattle.list_machine.specs.declared.page.request.Hit.{Hit}
use Rattle.ctx_ids.specs.declared.id.Kind.TheVariants as kind
use Rattle.reply_json.specs.declared.found.Lead.{Lead}
use Rattle.reply_json.specs.declared.found.Lead.TheVariants.{Nothing, Pit}
use Rattle.reply_json.specs.Ids.{id_text}
use Rattle.reply_json.specs.Pieces.{comma_if, joined}

abbrev pub value_text : Value → List ℕ
value_text (Key text) = quoted text
value_text (Long number) = signed_decimal number
value_text Missing = codes "null"

abbrev pub values_text : Bool → List Value → List ℕ
values_text later [] = []
values_text later (value ∷ values) = comma_if later ++ (value_text value ++ values_text true values)

abbrev pub sort_text : List Value → List ℕ
sort_text [] = []
sort_text (value ∷ values) = joined (codes ",\"sort\":[" ∷ values_text false (value ∷ values) ∷ codes "]" ∷ [])

unfoldable pub hit_text : Hit → List ℕ
hit_text hit =
    joined (codes "{\"_index\":" ∷ quoted hit.index ∷ codes ",\"_id\":" ∷ quoted hit.id ∷
    codes ",\"_score\":null,\"_source\":" ∷ hit.source ∷ sort_text hit.shown ∷ codes "}" ∷ [])

abbrev pub hits_text : Bool → List Hit → List ℕ
hits_text later [] = []
hits_text later (hit ∷ hits) = comma_if later ++ (hit_text hit ++ hits_text true hits)

abbrev pub phases_text : ℕ → List ℕ
phases_text phases = if phases == 1 then [] else joined (codes "\"num_reduce_phases\":" ∷ decimal phases ∷ codes "," ∷ [])

unfoldable pub counts_text : Counts → List ℕ
counts_text counts =
    joined (codes "\"_shards\":{\"total\":" ∷ decimal counts.total ∷ codes ",\"successful\":" ∷
    decimal counts.successful ∷ codes ",\"skipped\":" ∷ decimal counts.skipped ∷ codes ",\"failed\":" ∷
    decimal counts.failed ∷ codes "}" ∷ [])

unfoldable pub before_hits : Answer → List ℕ
before_hits answer =
    joined (codes "\"took\":0,\"timed_out\":false," ∷ phases_text answer.phases ∷ counts_text answer.counts ∷
    codes ",\"hits\":{\"total\":{\"value\":" ∷ decimal answer.total ∷
    codes ",\"relation\":\"eq\"},\"max_score\":null,\"hits\":[" ∷ [])

-- what leads the body of an answer to a search, by the point in time that was searched, if one was
abbrev pub lead_of : Option ℕ → Lead
lead_of None = Nothing
lead_of (Some number) = Pit number

abbrev pub lead_text : Lead → List ℕ
lead_text Nothing = []
lead_text (Pit number) = joined (codes "\"pit_id\":\"" ∷ id_text kind.Pit number ∷ codes "\"," ∷ [])

unfoldable pub found_text : Lead → Answer → List ℕ
found_text lead answer =
    joined (codes "{" ∷ lead_text lead ∷ before_hits answer ∷ hits_text false answer.hits ∷ codes "]}}" ∷ [])
