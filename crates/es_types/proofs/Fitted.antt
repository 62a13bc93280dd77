-- How the values of the fields go together, one field after another.
use Rattle.std.proofs.Common.{◌≡◌, ℕ, ◌+◌, ◌<◌, List, [], ◌∷◌, ◌++◌, length, get_or, map, drop, Bor, Result, Ok, Err, refl, sym, ◌∙◌, ap, append_assoc, arith}
use Rattle.std.proofs.lemmas.List.{drop_more, get_or-map}
use Rattle.es_types.specs.Fields.{before, fit_from, value_named, value_of}
use Rattle.es_types.specs.Fit.{values_named}
use Rattle.es_types.specs.declared.doc.DocValue.{DocValue}
use Rattle.es_types.specs.declared.doc.Member.{Member}
use Rattle.es_types.specs.declared.fit.DocCause.{DocCause}
use Rattle.es_types.specs.declared.fit.DocFault.{DocFault}
use Rattle.es_types.specs.declared.mapping.Field.{Field}
use Rattle.es_types.specs.declared.row.Value.{Value}

-- the values so far in front of those of the fields after, or the fault among these
abbrev pub after : List Value → Result (List Value) DocFault → Result (List Value) DocFault
after values (Ok rest) = Ok (values ++ rest)
after values (Err fault) = Err fault

after_one : (values : List Value) (number : ℕ) (value : Value) (rest : Result (List Value) DocFault) → after values (before number (Ok value) rest) ≡ after (values ++ value ∷ []) rest
after_one values number value (Ok rest) = simp append_assoc
after_one values number value (Err fault) = refl

module _ (fields : List Field) (members : List Member) (at : ℕ) (field : Field) (in_range : at < length fields) where
  -- what is given at a place is the value of the member of the name of the field there
  pub given_at : (given : List (Bor DocValue)) (value : Bor DocValue) → map (λ (value : Bor DocValue). value.now) given ≡ values_named fields members → length given ≡ length fields → value ≡ get_or given at value → value.now ≡ value_named (get_or fields at field).name members
  given_at given value is same_length read =
      ap (λ (value : Bor DocValue). value.now) read
      ∙ sym (get_or-map (λ (value : Bor DocValue). value.now) given at value value.now (omega arith))
      ∙ ap (λ (values : List DocValue). get_or values at value.now) is
      ∙ get_or-map (λ (field : Field). value_named field.name members) fields at field value.now in_range

  module _ (given : DocValue) (named : given ≡ value_named (get_or fields at field).name members) (values : List Value) where
    -- a field that has its value
    pub fit_more : (value : Value) (more : List Value) → value_of (get_or fields at field).kind given ≡ Ok value → more ≡ values ++ value ∷ [] → after values (fit_from at (drop at fields) members) ≡ after more (fit_from (at + 1) (drop (at + 1) fields) members)
    fit_more value more is pushed = rw (drop_more fields at field in_range, ← named, is, pushed) (after_one values at value _)

    -- a field that has none
    pub fit_fails : (cause : DocCause) → value_of (get_or fields at field).kind given ≡ Err cause → after values (fit_from at (drop at fields) members) ≡ Err (record { field = at; cause = cause })
    fit_fails cause is = rw (drop_more fields at field in_range, ← named, is)
