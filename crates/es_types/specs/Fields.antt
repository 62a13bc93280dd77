-- Which fields are a mapping, and which values a document gives them.
use Rattle.std.specs.Prelude.{Bool, true, ℕ, ◌+◌, ◌&&◌, nat_le, bytes_eq, if◌then◌else◌, List, [], ◌∷◌, length, Result, Ok, Err}
use Rattle.std.specs.Cmp.Lexicographic.{slice_cmp}
use Rattle.std.specs.Ordering.{nat_cmp, is_lt}
use Rattle.es_types.specs.declared.limits.TheConstants.{MAPPING_FIELDS}
use Rattle.es_types.specs.declared.mapping.Field.{Field}
use Rattle.es_types.specs.declared.mapping.FieldKind.{FieldKind}
use Rattle.es_types.specs.declared.mapping.FieldKind.TheVariants as kind
use Rattle.es_types.specs.declared.doc.DocValue.{DocValue}
use Rattle.es_types.specs.declared.doc.DocValue.TheVariants as doc
use Rattle.es_types.specs.declared.doc.Member.{Member}
use Rattle.es_types.specs.declared.row.Value.{Value}
use Rattle.es_types.specs.declared.row.Value.TheVariants as value
use Rattle.es_types.specs.declared.fit.DocCause.{DocCause}
use Rattle.es_types.specs.declared.fit.DocCause.TheVariants.{Kind, TooLong}
use Rattle.es_types.specs.declared.fit.DocFault.{DocFault}

-- the names differ, and stand in the order of their bytes
abbrev pub names_rise : List Field → Bool
names_rise [] = true
names_rise (field ∷ []) = true
names_rise (field ∷ next ∷ fields) = is_lt (slice_cmp nat_cmp field.name next.name) && names_rise (next ∷ fields)

-- at most 1,000 fields of that kind
abbrev pub is_mapping : List Field → Bool
is_mapping fields = nat_le (length fields) MAPPING_FIELDS && names_rise fields

-- the longest text of a keyword, in bytes
abbrev pub longest_key : ℕ
longest_key = 32766

-- what a value of a document is as the value of a field of that kind
abbrev pub value_of : FieldKind → DocValue → Result Value DocCause
value_of kind.Key (doc.Key text) = if nat_le (length text) longest_key then Ok (value.Key text) else Err TooLong
value_of kind.Long (doc.Long number) = Ok (value.Long number)
value_of kind.Key doc.Null = Ok value.Missing
value_of kind.Long doc.Null = Ok value.Missing
value_of kind.Key (doc.Long number) = Err Kind
value_of kind.Long (doc.Key text) = Err Kind
value_of kind.Key doc.Other = Err Kind
value_of kind.Long doc.Other = Err Kind

-- the value of the first member of that name: no member is as good as null
abbrev pub value_named : List ℕ → List Member → DocValue
value_named name [] = doc.Null
value_named name (member ∷ members) = if bytes_eq member.name name then member.value else value_named name members

-- the value of a field in front of those of the fields after it, or the first fault
abbrev pub before : ℕ → Result Value DocCause → Result (List Value) DocFault → Result (List Value) DocFault
before field (Err cause) rest = Err (record { field = field; cause = cause })
before field (Ok value) (Err fault) = Err fault
before field (Ok value) (Ok values) = Ok (value ∷ values)

-- the values that a document with these members gives the fields, which are numbered from there on
abbrev pub fit_from : ℕ → List Field → List Member → Result (List Value) DocFault
fit_from number [] members = Ok []
fit_from number (field ∷ fields) members =
    before number (value_of field.kind (value_named field.name members)) (fit_from (number + 1) fields members)

-- the same for a whole mapping: one value a field, or the fault of the first field that has one
abbrev pub fit : List Field → List Member → Result (List Value) DocFault
fit mapping members = fit_from 0 mapping members
