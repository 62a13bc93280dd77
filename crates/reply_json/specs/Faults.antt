-- Why a request is refused, as its response says it (RFC 9110, 15, and RFC 8259).
use Rattle.std.specs.Prelude.{ℕ, List, [], ◌∷◌, codes, decimal}
use Rattle.json.specs.Print.{quoted}
use Rattle.es_types.specs.declared.fit.DocCause.{DocCause}
use Rattle.es_types.specs.declared.fit.DocCause.TheVariants.{Kind, TooLong}
use Rattle.es_types.specs.declared.limit.LimitName.{LimitName}
use Rattle.es_types.specs.declared.limit.LimitName.TheVariants.{Moment, Index, Id, Shards, Fields, KeepAlive, Batch, Pit, From, Window, Slice, Sort}
use Rattle.reply_json.specs.declared.fault.RestFault.{RestFault}
use Rattle.reply_json.specs.declared.fault.RestFault.TheVariants as fault
use Rattle.reply_json.specs.Pieces.{joined}

abbrev pub fault_status : RestFault → ℕ
fault_status fault.NotBuilt = 501
fault_status (fault.BadParam name) = 400
fault_status fault.BadBody = 400
fault_status (fault.Limit name) = 400
fault_status fault.BadId = 400
fault_status fault.Spent = 429
fault_status (fault.NoIndex name) = 404
fault_status (fault.Exists name) = 400
fault_status (fault.BadDoc doc) = 400
fault_status fault.BadQuery = 400
fault_status fault.BadSort = 400
fault_status fault.BadAfter = 400
fault_status (fault.NoContext id) = 404
fault_status (fault.TooMany limit) = 429
fault_status fault.ShardFull = 429
fault_status fault.NoMemory = 503

abbrev pub fault_type : RestFault → List ℕ
fault_type fault.NotBuilt = codes "not_built_exception"
fault_type (fault.BadParam name) = codes "illegal_argument_exception"
fault_type fault.BadBody = codes "parsing_exception"
fault_type (fault.Limit name) = codes "illegal_argument_exception"
fault_type fault.BadId = codes "illegal_argument_exception"
fault_type fault.Spent = codes "history_full_exception"
fault_type (fault.NoIndex name) = codes "index_not_found_exception"
fault_type (fault.Exists name) = codes "resource_already_exists_exception"
fault_type (fault.BadDoc doc) = codes "document_parsing_exception"
fault_type fault.BadQuery = codes "query_shard_exception"
fault_type fault.BadSort = codes "query_shard_exception"
fault_type fault.BadAfter = codes "illegal_argument_exception"
fault_type (fault.NoContext id) = codes "search_context_missing_exception"
fault_type (fault.TooMany limit) = codes "too_many_contexts_exception"
fault_type fault.ShardFull = codes "shard_full_exception"
fault_type fault.NoMemory = codes "no_memory_exception"

abbrev pub cause_text : DocCause → List ℕ
cause_text Kind = codes "of another kind"
cause_text TooLong = codes "that is too long"

abbrev pub limit_word : LimitName → List ℕ
limit_word Moment = codes "moment"
limit_word Index = codes "index"
limit_word Id = codes "id"
limit_word Shards = codes "shards"
limit_word Fields = codes "fields"
limit_word KeepAlive = codes "keep_alive"
limit_word Batch = codes "batch"
limit_word Pit = codes "pit"
limit_word From = codes "from"
limit_word Window = codes "window"
limit_word Slice = codes "slice"
limit_word Sort = codes "sort"

abbrev pub reason : RestFault → List ℕ
reason fault.NotBuilt = codes "not built"
reason (fault.BadParam name) = joined (codes "bad parameter [" ∷ name ∷ codes "]" ∷ [])
reason fault.BadBody = codes "bad body"
reason (fault.Limit name) = joined (codes "limit [" ∷ limit_word name ∷ codes "]" ∷ [])
reason fault.BadId = codes "bad id"
reason fault.Spent = codes "history is full"
reason (fault.NoIndex name) = joined (codes "no such index [" ∷ name ∷ codes "]" ∷ [])
reason (fault.Exists name) = joined (codes "index [" ∷ name ∷ codes "] exists" ∷ [])
reason (fault.BadDoc doc) = joined (codes "field [" ∷ decimal doc.field ∷ codes "] has a value " ∷ cause_text doc.cause ∷ [])
reason fault.BadQuery = codes "a query value of another kind"
reason fault.BadSort = codes "no mapping for a sort field"
reason fault.BadAfter = codes "search_after does not fit the sort"
reason (fault.NoContext id) = joined (codes "no context [" ∷ id ∷ codes "]" ∷ [])
reason (fault.TooMany limit) = joined (codes "limit [" ∷ decimal limit ∷ codes "]" ∷ [])
reason fault.ShardFull = codes "shard is full"
reason fault.NoMemory = codes "no memory"

-- the members that say why
unfoldable pub cause_members : RestFault → List ℕ
cause_members fault =
    joined (codes "\"type\":\"" ∷ fault_type fault ∷ codes "\",\"reason\":" ∷ quoted (reason fault) ∷ [])

unfoldable pub fault_text : RestFault → List ℕ
fault_text fault =
    joined (codes "{\"error\":{\"root_cause\":[{" ∷ cause_members fault ∷ codes "}]," ∷ cause_members fault ∷
    codes "},\"status\":" ∷ decimal (fault_status fault) ∷ codes "}" ∷ [])
