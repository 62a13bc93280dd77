-- What is said of a new index, a written document, a refresh, an opening and a closing, as JSON (RFC 8259).
use Rattle.std.specs.Prelude.{ℕ, ◌-◌, ◌==◌, if◌then◌else◌, List, [], ◌∷◌, codes, decimal}
use Rattle.json.specs.Print.{quoted}
use Rattle.list_machine.specs.declared.event.Wrote.{Wrote}
use Rattle.list_machine.specs.declared.event.Wrote.TheVariants.{Created, Updated, Deleted, NotFound}
use Rattle.ctx_ids.specs.declared.id.Kind.TheVariants.{Pit}
use Rattle.reply_json.specs.Ids.{id_text}
use Rattle.reply_json.specs.Pieces.{joined}

unfoldable pub created_text : List ℕ → List ℕ
created_text index =
    joined (codes "{\"acknowledged\":true,\"shards_acknowledged\":true,\"index\":" ∷ quoted index ∷ codes "}" ∷ [])

abbrev pub result_word : Wrote → List ℕ
result_word Created = codes "created"
result_word Updated = codes "updated"
result_word Deleted = codes "deleted"
result_word NotFound = codes "not_found"

-- the status code of what a write did
abbrev pub wrote_status : Wrote → ℕ
wrote_status Created = 201
wrote_status Updated = 200
wrote_status Deleted = 200
wrote_status NotFound = 404

-- an operation's number counts from 1 in its shard, and `_seq_no` from 0
unfoldable pub wrote_text : List ℕ → List ℕ → Wrote → ℕ → List ℕ
wrote_text index id result seq =
    joined (codes "{\"_index\":" ∷ quoted index ∷ codes ",\"_id\":" ∷ quoted id ∷ codes ",\"result\":\"" ∷
    result_word result ∷ codes "\",\"_seq_no\":" ∷ decimal (seq - 1) ∷ codes "}" ∷ [])

unfoldable pub refreshed_text : ℕ → List ℕ
refreshed_text shards =
    joined (codes "{\"_shards\":{\"total\":" ∷ decimal shards ∷ codes ",\"successful\":" ∷ decimal shards ∷
    codes ",\"failed\":0}}" ∷ [])

unfoldable pub opened_text : ℕ → List ℕ
opened_text number =
    joined (codes "{\"id\":\"" ∷ id_text Pit number ∷ codes "\"}" ∷ [])

-- the status code of a closing that freed so many shards
abbrev pub closed_status : ℕ → ℕ
closed_status freed = if freed == 0 then 404 else 200

unfoldable pub closed_text : ℕ → List ℕ
closed_text freed =
    joined (codes "{\"succeeded\":true,\"num_freed\":" ∷ decimal freed ∷ codes "}" ∷ [])
