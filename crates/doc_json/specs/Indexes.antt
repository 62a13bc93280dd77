-- What the body of a new index asks for.
use Rattle.std.specs.Prelude.{ℕ, ◌^◌, ◌==◌, ◌&&◌, ◌||◌, not, nat_le, nat_lt, bytes_eq, Bool, true, false, if◌then◌else◌, List, [], ◌∷◌, length, is_some, Option, Some, None, option_and_then, Result, Ok, Err, codes}
use Rattle.std.specs.Char.{is_ascii_digit}
use Rattle.std.specs.List.{list_all}
use Rattle.std.specs.Option.{option_map_or}
use Rattle.std.specs.Str.Parse.{digits_value}
use Rattle.es_types.specs.declared.limits.TheConstants.{INDEX_SHARDS, MAPPING_FIELDS}
use Rattle.serde_json.specs.Data.{Data, Members, no_members, member}
use Rattle.serde_json.specs.Find.{as_bool, as_number, as_object, as_str, as_u64, get}
use Rattle.es_types.specs.Name.{is_field_name}
use Rattle.es_types.specs.declared.limit.LimitName.TheVariants.{Fields, Shards}
use Rattle.es_types.specs.declared.mapping.Field.{Field}
use Rattle.es_types.specs.declared.mapping.FieldKind.{FieldKind}
use Rattle.es_types.specs.declared.mapping.FieldKind.TheVariants.{Key, Long}
use Rattle.doc_json.specs.declared.fault.BodyFault.{BodyFault}
use Rattle.doc_json.specs.declared.fault.BodyFault.TheVariants.{Limit, Shape}
use Rattle.doc_json.specs.declared.index.IndexSpec.{IndexSpec}
use Rattle.doc_json.specs.Json.{count_of, data_of, form_then, is_form, json_then, only_member}

-- ---- settings

-- decimal digits that don't begin with a zero, or a zero alone
abbrev pub is_numeral : List ℕ → Bool
is_numeral [] = false
is_numeral (first ∷ rest) = if first == 48 then length rest == 0 else list_all is_ascii_digit (first ∷ rest)

-- a number of 0 to 2^31 - 1
abbrev pub small : ℕ → Option ℕ
small n = if nat_lt n (2 ^ 31) then Some n else None

unfoldable pub whole_in : List ℕ → Option ℕ
whole_in text = if is_numeral text then small (digits_value 10 text) else None

-- such a number, or the text of its decimal digits
abbrev pub whole_by : Option (List ℕ) → Data → Option ℕ
whole_by (Some text) value = whole_in text
whole_by None value = option_and_then small (option_and_then as_u64 (as_number value))

unfoldable pub whole_of : Data → Option ℕ
whole_of value = whole_by (as_str value) value

-- of two places one: nothing where both are taken
abbrev pub one_of : Option Data → Option Data → Option (Option Data)
one_of None inner = Some inner
one_of (Some value) None = Some (Some value)
one_of (Some value) (Some other) = None

-- the value of a setting, which stands in the settings or in their `index`, but not in both
unfoldable pub setting : List ℕ → Data → Option (Option Data)
setting name settings = one_of (get name settings) (option_and_then (get name) (get (codes "index") settings))

-- the number that a setting gives, or 1 where it isn't there
abbrev pub number_in : Option Data → Option ℕ
number_in None = Some 1
number_in (Some value) = whole_of value

unfoldable pub number_at : List ℕ → Data → Option ℕ
number_at name settings = option_and_then number_in (setting name settings)

-- the refresh interval is a text, or isn't there
abbrev pub is_text_or_none : Option Data → Bool
is_text_or_none value = option_map_or (λ v. is_some (as_str v)) value true

unfoldable pub is_interval : Data → Bool
is_interval settings = option_map_or is_text_or_none (setting (codes "refresh_interval") settings) false

-- the three settings and `index`, which has no others than the three
unfoldable pub has_form : Data → Bool
has_form settings =
    is_form (codes "number_of_shards" ∷ codes "number_of_replicas" ∷ codes "refresh_interval" ∷ codes "index" ∷ []) settings
    && option_map_or (is_form (codes "number_of_shards" ∷ codes "number_of_replicas" ∷ codes "refresh_interval" ∷ [])) (get (codes "index") settings) true

unfoldable pub are_settings : Data → Bool
are_settings settings = has_form settings && (is_some (number_at (codes "number_of_replicas") settings) && is_interval settings)

unfoldable pub shards_in : Data → Option ℕ
shards_in settings = if are_settings settings then number_at (codes "number_of_shards") settings else None

-- how many shards settings ask for: one where there are no settings
abbrev pub shards_of : Option Data → Option ℕ
shards_of None = Some 1
shards_of (Some settings) = shards_in settings

-- ---- mappings

-- an object of a `type` alone, which is that
unfoldable pub is_type : List ℕ → Data → Bool
is_type name value = option_map_or (λ kind. bytes_eq kind name) (option_and_then as_str (only_member (codes "type") value)) false

abbrev pub is_field : Data → Bool
is_field value = is_type (codes "keyword") value || is_type (codes "long") value

abbrev pub kind_of : Data → FieldKind
kind_of value = if is_type (codes "long") value then Long else Key

abbrev pub are_fields : Members → Bool
are_fields no_members = true
are_fields (member name value rest) = is_field value && are_fields rest

abbrev pub field_of : List ℕ → Data → Field
field_of name value = record { name = name; kind = kind_of value }

abbrev pub fields_of : Members → List Field
fields_of no_members = []
fields_of (member name value rest) = field_of name value ∷ fields_of rest

-- `false`, or the text of it
abbrev pub is_false_by : Option (List ℕ) → Option Bool → Bool
is_false_by (Some text) truth = bytes_eq text (codes "false")
is_false_by None truth = option_map_or not truth false

abbrev pub is_false : Data → Bool
is_false value = is_false_by (as_str value) (as_bool value)

-- `dynamic`, which is false, and `properties`
unfoldable pub are_mappings : Data → Bool
are_mappings mappings =
    is_form (codes "dynamic" ∷ codes "properties" ∷ []) mappings && option_map_or is_false (get (codes "dynamic") mappings) true

-- the properties, which are fields: none where they aren't there
abbrev pub if_fields : Members → Option Members
if_fields members = if are_fields members then Some members else None

abbrev pub properties_in : Option Data → Option Members
properties_in None = Some no_members
properties_in (Some properties) = option_and_then if_fields (as_object properties)

abbrev pub properties_of : Option Data → Option Members
properties_of None = Some no_members
properties_of (Some mappings) = if are_mappings mappings then properties_in (get (codes "properties") mappings) else None

-- ---- limits

-- each name is one that a field may have
abbrev pub are_named : List Field → Bool
are_named fields = list_all (λ field. is_field_name field.name) fields

abbrev pub named_field : List ℕ → Data → Option Field
named_field name value = if is_field_name name then Some (field_of name value) else None

-- the mapping of at most 1,000 properties with such names
abbrev pub mapping_of : Members → Option (List Field)
mapping_of properties =
    if nat_le (count_of properties) MAPPING_FIELDS && are_named (fields_of properties) then Some (fields_of properties) else None

-- an index has 1 to 1,024 shards
abbrev pub mapped : ℕ → Option (List Field) → Result IndexSpec BodyFault
mapped shards None = Err (Limit Fields)
mapped shards (Some mapping) = Ok (record { shards = shards; mapping = mapping })

unfoldable pub limited : ℕ → Members → Result IndexSpec BodyFault
limited shards properties =
    if nat_le 1 shards && nat_le shards INDEX_SHARDS then mapped shards (mapping_of properties) else Err (Limit Shards)

-- ---- the whole

-- `settings` and `mappings`
unfoldable pub index_in : Data → Result IndexSpec BodyFault
index_in value =
    if is_form (codes "settings" ∷ codes "mappings" ∷ []) value
    then form_then (shards_of (get (codes "settings") value)) (λ shards. form_then (properties_of (get (codes "mappings") value)) (limited shards))
    else Err Shape

-- an empty body counts as `{}`
abbrev pub filled : List ℕ → List ℕ
filled [] = codes "{}"
filled (b ∷ body) = b ∷ body

unfoldable pub index_of : List ℕ → Result IndexSpec BodyFault
index_of body = json_then (data_of (filled body)) index_in
