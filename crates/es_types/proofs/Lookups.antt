-- What is found at the first field of a name.
use Rattle.std.proofs.Common.{◌≡◌, ℕ, ◌<◌, ◌≤◌, min, Bool, true, false, List, [], ◌∷◌, length, get_or, Option, Some, None, suc, zero, refl, sym, ◌∙◌, ap, arith}
use Rattle.std.specs.List.{position, position_or_len}
use Rattle.std.specs.Str.{bytes_eq}
use Rattle.std.proofs.lemmas.Bool.Decides.{nat_tests}
use Rattle.std.proofs.lemmas.List.Quantifiers.{position-Some}
use Rattle.std.proofs.lemmas.List.Sums.{fails_before_first}
use Rattle.es_types.specs.declared.mapping.Field.{Field}
use Rattle.es_types.specs.declared.mapping.FieldKind.{FieldKind}
use Rattle.es_types.specs.declared.mapping.FieldKind.TheVariants as kind
use Rattle.es_types.specs.declared.row.Value.{Value}
use Rattle.es_types.specs.declared.row.Value.TheVariants as value
use Rattle.es_types.specs.Values.{is_kind, kind_in, of_kind, values_in}

abbrev pub is_named : List ℕ → Field → Bool
is_named name field = bytes_eq field.name name

-- the place of the first field of a name
abbrev pub IsFound : List ℕ → List Field → Option ℕ → Type 0
IsFound name fields place = place ≡ position (is_named name) fields

pub no_some : (at : ℕ) → Some at ≡ None → ⊥
no_some at is = cc

module _ (name : List ℕ) where
  position_past : (fields : List Field) → IsFound name fields None → length fields ≤ position_or_len (is_named name) fields
  position_past fields is = grind (arith, nat_tests)

  -- the fields below that place have other names
  abbrev pub OthersBelow : List Field → ℕ → Type 0
  OthersBelow fields n = (k : ℕ) (d : Field) → k < n → is_named name (get_or fields k d) ≡ false

  pub others : (fields : List Field) → IsFound name fields None → OthersBelow fields (length fields)
  others fields is k d in_range = let past = position_past fields is in fails_before_first (is_named name) fields k d (omega arith)

  pub others_before : (fields : List Field) (at : ℕ) → IsFound name fields (Some at) → OthersBelow fields at
  others_before fields at is k d before = (position-Some (is_named name) fields at d (sym is)).2 k before

  pub named_at : (fields : List Field) (at : ℕ) (d : Field) → IsFound name fields (Some at) → is_named name (get_or fields at d) ≡ true
  named_at fields at d is = (position-Some (is_named name) fields at d (sym is)).1

  pub found_within : (fields : List Field) (at : ℕ) → IsFound name fields (Some at) → at < length fields
  found_within [] at is = absurd (no_some at is)
  found_within (field ∷ fields) at is = (position-Some (is_named name) (field ∷ fields) at field (sym is)).0

  values_past : (fields : List Field) (values : List Value) (n : ℕ) → OthersBelow fields n → min (length fields) (length values) ≤ n → values_in fields values name ≡ []
  values_past [] values n differ past = refl
  values_past (field ∷ fields) [] n differ past = refl
  values_past (field ∷ fields) (value ∷ values) zero differ past = absurd (omega arith)
  values_past (field ∷ fields) (value ∷ values) (suc n) differ past =
      let differs : bytes_eq field.name name ≡ false = differ 0 field (omega arith) in
      rw differs (values_past fields values n (λ k d before. differ (suc k) d (omega arith)) (omega arith))

  values_at : (fields : List Field) (values : List Value) (at : ℕ) (field : Field) (value : Value) → OthersBelow fields at → is_named name (get_or fields at field) ≡ true → at < length fields → at < length values → values_in fields values name ≡ of_kind (get_or fields at field).kind (get_or values at value)
  values_at [] values at d e differ same within in_row = absurd (omega arith)
  values_at (field ∷ fields) [] at d e differ same within in_row = absurd (omega arith)
  values_at (field ∷ fields) (value ∷ values) zero d e differ same within in_row =
      let named : bytes_eq field.name name ≡ true = same in rw named
  values_at (field ∷ fields) (value ∷ values) (suc at) d e differ same within in_row =
      let differs : bytes_eq field.name name ≡ false = differ 0 field (omega arith) in
      rw differs (values_at fields values at d e (λ k d before. differ (suc k) d (omega arith)) same (omega arith) (omega arith))

  kind_past : (fields : List Field) → OthersBelow fields (length fields) → kind_in fields name ≡ None
  kind_past [] differ = refl
  kind_past (field ∷ fields) differ =
      let differs : bytes_eq field.name name ≡ false = differ 0 field (omega arith) in
      rw differs (kind_past fields (λ k d before. differ (suc k) d (omega arith)))

  kind_at : (fields : List Field) (at : ℕ) (field : Field) → OthersBelow fields at → is_named name (get_or fields at field) ≡ true → at < length fields → kind_in fields name ≡ Some (get_or fields at field).kind
  kind_at [] at d differ same within = absurd (omega arith)
  kind_at (field ∷ fields) zero d differ same within = let named : bytes_eq field.name name ≡ true = same in rw named
  kind_at (field ∷ fields) (suc at) d differ same within =
      let differs : bytes_eq field.name name ≡ false = differ 0 field (omega arith) in
      rw differs (kind_at fields at d (λ k d before. differ (suc k) d (omega arith)) same (omega arith))

of_kind_is : (kind : FieldKind) (value : Value) → is_kind kind value ≡ true → of_kind kind value ≡ value ∷ []
of_kind_is kind.Key (value.Key text) is = refl
of_kind_is kind.Key (value.Long number) is = cc
of_kind_is kind.Key value.Missing is = cc
of_kind_is kind.Long (value.Key text) is = cc
of_kind_is kind.Long (value.Long number) is = refl
of_kind_is kind.Long value.Missing is = cc

of_kind_not : (kind : FieldKind) (value : Value) → is_kind kind value ≡ false → of_kind kind value ≡ []
of_kind_not kind.Key (value.Key text) is = cc
of_kind_not kind.Key (value.Long number) is = refl
of_kind_not kind.Key value.Missing is = refl
of_kind_not kind.Long (value.Key text) is = refl
of_kind_not kind.Long (value.Long number) is = cc
of_kind_not kind.Long value.Missing is = refl

module _ (name : List ℕ) (fields : List Field) where
  -- a field that isn't mapped
  pub values_unmapped : (values : List Value) → IsFound name fields None → values_in fields values name ≡ []
  values_unmapped values is = values_past name fields values (length fields) (others name fields is) (omega arith)

  pub kind_unmapped : IsFound name fields None → kind_in fields name ≡ None
  kind_unmapped is = kind_past name fields (others name fields is)

  module _ (at : ℕ) (is : IsFound name fields (Some at)) where
    -- a row that ends before the field
    pub values_short : (values : List Value) → length values ≤ at → values_in fields values name ≡ []
    values_short values short = values_past name fields values at (others_before name fields at is) (omega arith)

    module _ (field : Field) (read : field ≡ get_or fields at field) where
      kind_read : (get_or fields at field).kind ≡ field.kind
      kind_read = ap (λ (field : Field). field.kind) (sym read)

      pub kind_found : kind_in fields name ≡ Some field.kind
      kind_found = kind_at name fields at field (others_before name fields at is) (named_at name fields at field is) (found_within name fields at is) ∙ ap Some kind_read

      module _ (values : List Value) (value : Value) (in_row : at < length values) (taken : value ≡ get_or values at value) where
        values_found : values_in fields values name ≡ of_kind field.kind value
        values_found =
            values_at name fields values at field value (others_before name fields at is) (named_at name fields at field is) (found_within name fields at is) in_row
            ∙ ap (λ kind. of_kind kind (get_or values at value)) kind_read ∙ ap (of_kind field.kind) (sym taken)

        -- a value of the field's kind, or of another one
        pub value_found : is_kind field.kind value ≡ true → values_in fields values name ≡ value ∷ []
        value_found of_it = values_found ∙ of_kind_is field.kind value of_it

        pub value_refused : is_kind field.kind value ≡ false → values_in fields values name ≡ []
        value_refused not_of = values_found ∙ of_kind_not field.kind value not_of
