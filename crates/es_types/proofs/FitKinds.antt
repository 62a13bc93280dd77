-- The values that a document gives a mapping are of the kinds of its fields.
use Rattle.std.proofs.Common.{◌≡◌, ℕ, ◌+◌, Bool, true, false, cond, inl, inr, List, [], ◌∷◌, Result, Ok, Err, refl, subst}
use Rattle.std.specs.Prelude.{IfOk}
use Rattle.es_types.specs.Fail.{Answers}
use Rattle.es_types.specs.Fields.{before, fit, fit_from, value_named, value_of}
use Rattle.es_types.specs.Values.{AreValuesOf, IsOfKind}
use Rattle.es_types.specs.declared.doc.DocValue.{DocValue}
use Rattle.es_types.specs.declared.doc.DocValue.TheVariants as doc
use Rattle.es_types.specs.declared.doc.Member.{Member}
use Rattle.es_types.specs.declared.fail.Fail.{Fail}
use Rattle.es_types.specs.declared.fit.DocCause.{DocCause}
use Rattle.es_types.specs.declared.fit.DocCause.TheVariants.{TooLong}
use Rattle.es_types.specs.declared.fit.DocFault.{DocFault}
use Rattle.es_types.specs.declared.mapping.Field.{Field}
use Rattle.es_types.specs.declared.mapping.FieldKind.{FieldKind}
use Rattle.es_types.specs.declared.mapping.FieldKind.TheVariants as kind
use Rattle.es_types.specs.declared.row.Value.{Value}
use Rattle.es_types.specs.declared.row.Value.TheVariants.{Key, Long, Missing}

-- a text that is short enough is a keyword
key_kind : (short : Bool) (text : List ℕ) (value : Value) → cond {A = Result Value DocCause} short (Ok (Key text)) (Err TooLong) ≡ Ok value → IsOfKind kind.Key value
key_kind true text value e = let same : Key text ≡ value = cc in subst (IsOfKind kind.Key) same (inr refl)
key_kind false text value e = absurd (cc)

-- what a value of a document is as the value of a field, is of the field's kind
value_kind : (of : FieldKind) (given : DocValue) (value : Value) → value_of of given ≡ Ok value → IsOfKind of value
value_kind kind.Key (doc.Key text) value e = key_kind _ text value e
value_kind kind.Long (doc.Long number) value e = let same : Long number ≡ value = cc in subst (IsOfKind kind.Long) same (inr refl)
value_kind kind.Key doc.Null value e = let same : value ≡ Missing = cc in inl same
value_kind kind.Long doc.Null value e = let same : value ≡ Missing = cc in inl same
value_kind kind.Key (doc.Long number) value e = absurd (cc)
value_kind kind.Long (doc.Key text) value e = absurd (cc)
value_kind kind.Key doc.Other value e = absurd (cc)
value_kind kind.Long doc.Other value e = absurd (cc)

-- so are a value of one field and those of the fields after it
before_kinds : (number : ℕ) (field : Field) (fields : List Field) (one : Result Value DocCause) (rest : Result (List Value) DocFault)
    → ((value : Value) → one ≡ Ok value → IsOfKind field.kind value) → ((values : List Value) → rest ≡ Ok values → AreValuesOf fields values)
    → (values : List Value) → before number one rest ≡ Ok values → AreValuesOf (field ∷ fields) values
before_kinds number field fields (Err cause) rest here later values e = absurd (cc)
before_kinds number field fields (Ok value) (Err fault) here later values e = absurd (cc)
before_kinds number field fields (Ok value) (Ok more) here later values e =
    let same : value ∷ more ≡ values = cc in subst (AreValuesOf (field ∷ fields)) same (here value refl, later more refl)

-- and those of all fields
fit_from_kinds : (number : ℕ) (mapping : List Field) (members : List Member) (values : List Value) → fit_from number mapping members ≡ Ok values → AreValuesOf mapping values
fit_from_kinds number [] members [] e = tt
fit_from_kinds number [] members (value ∷ values) e = absurd (cc)
fit_from_kinds number (field ∷ fields) members values e =
    before_kinds number field fields (value_of field.kind (value_named field.name members)) (fit_from (number + 1) fields members)
    (value_kind field.kind (value_named field.name members)) (fit_from_kinds (number + 1) fields members) values e

-- the values that a document gives a mapping are its fields'
pub fit_kinds : (mapping : List Field) (members : List Member) (values : List Value) → fit mapping members ≡ Ok values → AreValuesOf mapping values
fit_kinds mapping members values e = fit_from_kinds 0 mapping members values e

-- so are those that a call answers
pub answer_kinds : (mapping : List Field) (members : List Member) (r : Result (List Value) (Fail DocFault)) → Answers r (fit mapping members) → IfOk r (AreValuesOf mapping)
answer_kinds mapping members (Ok values) answers = fit_kinds mapping members values answers
answer_kinds mapping members (Err fail) answers = tt
