-- A document's source is a JSON object.
use Rattle.std.proofs.Common.{◌≡◌, refl, subst, ℕ, Bool, true, false, List, Option, Some, None, Ok, Err}
use Rattle.std.specs.Prelude.{IsUtf8, if◌then◌else◌}
use Rattle.std.specs.Str.{is_utf8}
use Rattle.std.proofs.lemmas.Str.{IsUtf8-from_is_utf8}
use Rattle.serde_json.specs.Data.{Data, null, boolean, number, string, array, object}
use Rattle.serde_json.specs.Read.{read}
use Rattle.es_types.specs.declared.doc.Doc.{Doc}
use Rattle.doc_json.specs.declared.fault.BodyFault.TheVariants.{NotJson, Shape}
use Rattle.doc_json.specs.Json.{data_of, json_then, trimmed}
use Rattle.doc_json.specs.Documents.{doc_in, doc_of}
use Rattle.list_machine.specs.Objects.{IsObject}

-- where the data is an object, its text is the document's source
object_in : (source : List ℕ) (value : Data) (doc : Doc) → IsUtf8 source → read source ≡ Some value → doc_in source value ≡ Ok doc → IsObject doc.source
object_in source (object fields) doc text reads is =
    let same : source ≡ doc.source = cc in
    subst IsObject same (record { text = text; members = fields; reads = reads })
object_in source null doc text reads is = absurd (let e : Err Shape ≡ Ok doc = is in cc)
object_in source (boolean b) doc text reads is = absurd (let e : Err Shape ≡ Ok doc = is in cc)
object_in source (number n) doc text reads is = absurd (let e : Err Shape ≡ Ok doc = is in cc)
object_in source (string s) doc text reads is = absurd (let e : Err Shape ≡ Ok doc = is in cc)
object_in source (array items) doc text reads is = absurd (let e : Err Shape ≡ Ok doc = is in cc)

-- where the text is UTF-8 and JSON
object_by : (source : List ℕ) (doc : Doc) (b : Bool) (o : Option Data) → is_utf8 source ≡ b → read source ≡ o → json_then (if b then o else None) (doc_in source) ≡ Ok doc → IsObject doc.source
object_by source doc true (Some value) text reads is = object_in source value doc (IsUtf8-from_is_utf8 source text) reads is
object_by source doc true None text reads is = absurd (let e : Err NotJson ≡ Ok doc = is in cc)
object_by source doc false o text reads is = absurd (let e : Err NotJson ≡ Ok doc = is in cc)

-- the document that a text is has an object for its source
pub doc_object : (text : List ℕ) (doc : Doc) → doc_of text ≡ Ok doc → IsObject doc.source
unfolding doc_of data_of
doc_object text doc is = object_by (trimmed text) doc (is_utf8 (trimmed text)) (read (trimmed text)) refl refl is
