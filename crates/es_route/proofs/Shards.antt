-- What a body asks for keeps within its limits.
use Rattle.std.proofs.Common.{◌≡◌, refl, subst, ◌&&◌, ◌≤◌, ℕ, Bool, true, false, List, Option, Some, None, Ok, Err}
use Rattle.std.specs.Prelude.{nat_le, if◌then◌else◌, codes, ◌∷◌, []}
use Rattle.std.proofs.lemmas.Bool.{leb-true}
use Rattle.serde_json.specs.Data.{Data, Members}
use Rattle.serde_json.specs.Find.{get}
use Rattle.es_types.specs.declared.limit.LimitName.TheVariants as limit
use Rattle.es_types.specs.declared.mapping.Field.{Field}
use Rattle.doc_json.specs.declared.fault.BodyFault.TheVariants as body
use Rattle.doc_json.specs.declared.index.IndexSpec.{IndexSpec}
use Rattle.doc_json.specs.Indexes.{filled, index_in, index_of, limited, mapped, mapping_of, properties_of, shards_of}
use Rattle.doc_json.specs.Json.{data_of, form_then, is_form, json_then}

-- 1 to 1,024 shards
abbrev HasShards : IndexSpec → Type 0
HasShards spec = (1 ≤ spec.shards) × (spec.shards ≤ 1024)

-- the shards of a specification are those that were tested
mapped_shards : (shards : ℕ) (m : Option (List Field)) (spec : IndexSpec) → mapped shards m ≡ Ok spec → shards ≡ spec.shards
mapped_shards shards None spec is = absurd (let e : Err (body.Limit limit.Fields) ≡ Ok spec = is in cc)
mapped_shards shards (Some mapping) spec is = cc

-- the tests of the shards tell their limits
limited_by : (shards : ℕ) (a b : Bool) (m : Option (List Field)) (spec : IndexSpec) → nat_le 1 shards ≡ a → nat_le shards 1024 ≡ b
    → (if a && b then mapped shards m else Err (body.Limit limit.Shards)) ≡ Ok spec → HasShards spec
limited_by shards true true m spec low high is =
    let same = mapped_shards shards m spec is in
    subst (λ (n : ℕ). (1 ≤ n) × (n ≤ 1024)) same (leb-true 1 shards low, leb-true shards 1024 high)
limited_by shards true false m spec low high is = absurd (let e : Err (body.Limit limit.Shards) ≡ Ok spec = is in cc)
limited_by shards false b m spec low high is = absurd (let e : Err (body.Limit limit.Shards) ≡ Ok spec = is in cc)

-- a limited specification keeps them
limited_shards : (shards : ℕ) (properties : Members) (spec : IndexSpec) → limited shards properties ≡ Ok spec → HasShards spec
unfolding limited
limited_shards shards properties spec is = limited_by shards (nat_le 1 shards) (nat_le shards 1024) (mapping_of properties) spec refl refl is

-- and so after the properties
properties_shards : (shards : ℕ) (properties : Option Members) (spec : IndexSpec) → form_then properties (limited shards) ≡ Ok spec → HasShards spec
properties_shards shards None spec is = absurd (let e : Err body.Shape ≡ Ok spec = is in cc)
properties_shards shards (Some properties) spec is = limited_shards shards properties spec is

-- and after the settings
settings_shards : (shards : Option ℕ) (properties : Option Members) (spec : IndexSpec) → form_then shards (λ n. form_then properties (limited n)) ≡ Ok spec → HasShards spec
settings_shards None properties spec is = absurd (let e : Err body.Shape ≡ Ok spec = is in cc)
settings_shards (Some n) properties spec is = properties_shards n properties spec is

-- and after the form
form_shards : (form : Bool) (shards : Option ℕ) (properties : Option Members) (spec : IndexSpec)
    → (if form then form_then shards (λ n. form_then properties (limited n)) else Err body.Shape) ≡ Ok spec → HasShards spec
form_shards true shards properties spec is = settings_shards shards properties spec is
form_shards false shards properties spec is = absurd (let e : Err body.Shape ≡ Ok spec = is in cc)

-- a value that is an index
value_shards : (value : Data) (spec : IndexSpec) → index_in value ≡ Ok spec → HasShards spec
unfolding index_in
value_shards value spec is =
    form_shards (is_form (codes "settings" ∷ codes "mappings" ∷ []) value) (shards_of (get (codes "settings") value)) (properties_of (get (codes "mappings") value)) spec is

-- and bytes that are JSON
data_shards : (read : Option Data) (spec : IndexSpec) → json_then read index_in ≡ Ok spec → HasShards spec
data_shards None spec is = absurd (let e : Err body.NotJson ≡ Ok spec = is in cc)
data_shards (Some value) spec is = value_shards value spec is

-- a body that is an index has 1 to 1,024 shards
pub index_shards : (bytes : List ℕ) (spec : IndexSpec) → index_of bytes ≡ Ok spec → HasShards spec
unfolding index_of
index_shards bytes spec is = data_shards (data_of (filled bytes)) spec is
