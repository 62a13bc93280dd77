-- Which document a text is.
use Rattle.std.specs.Prelude.{◌≡◌, ℕ, Some, List, [], ◌∷◌, Result, Ok, Err}
use Rattle.std.specs.Option.{option_map_or}
use Rattle.serde_json.specs.Data.{Data, null, boolean, number, string, array, object, Members, no_members, member}
use Rattle.serde_json.specs.Find.{as_i64}
use Rattle.es_types.specs.declared.doc.Doc.{Doc}
use Rattle.es_types.specs.declared.doc.DocValue.{DocValue}
use Rattle.es_types.specs.declared.doc.DocValue.TheVariants.{Key, Long, Null, Other}
use Rattle.es_types.specs.declared.doc.Member.{Member}
use Rattle.doc_json.specs.declared.fault.BodyFault.{BodyFault}
use Rattle.doc_json.specs.declared.fault.BodyFault.TheVariants.{Shape}
use Rattle.doc_json.specs.Json.{data_of, json_then, trimmed}

-- a text, a whole number of 64 bits with a sign, or null; any other value is as good as any
abbrev pub value_of : Data → DocValue
value_of null = Null
value_of (boolean b) = Other
value_of (number n) = option_map_or Long (as_i64 n) Other
value_of (string text) = Key text
value_of (array items) = Other
value_of (object fields) = Other

-- the members of an object, in their order
abbrev pub members_of : Members → List Member
members_of no_members = []
members_of (member name value rest) = record { name = name; value = value_of value } ∷ members_of rest

-- a document is an object, together with its text
abbrev pub doc_in : List ℕ → Data → Result Doc BodyFault
doc_in source (object fields) = Ok (record { source = source; members = members_of fields })
doc_in source null = Err Shape
doc_in source (boolean b) = Err Shape
doc_in source (number n) = Err Shape
doc_in source (string text) = Err Shape
doc_in source (array items) = Err Shape

-- the document that a text is without white space at its ends
unfoldable pub doc_of : List ℕ → Result Doc BodyFault
doc_of text = json_then (data_of (trimmed text)) (doc_in (trimmed text))

-- its text is an object, and it has the members of that
abbrev pub IsDocument : Doc → Type 0
IsDocument doc = (fields : Members) × (data_of doc.source ≡ Some (object fields)) × (doc.members ≡ members_of fields)
