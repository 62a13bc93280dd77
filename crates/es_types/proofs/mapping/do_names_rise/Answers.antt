-- At most one field is left: it rises.
use Rattle.std.proofs.Common.{◌≡◌, ◌<◌, true, List, [], ◌∷◌, length, refl, sym, ◌∙◌, arith}
use Rattle.es_types.specs.declared.mapping.Field.{Field}
use Rattle.es_types.specs.Fields.{names_rise}
use Rattle.es_types.proofs.mapping.do_names_rise.Goals as goal

names_rise_short : (fields : List Field) → length fields < 2 → names_rise fields ≡ true
names_rise_short [] few = refl
names_rise_short (field ∷ []) few = refl
names_rise_short (field ∷ next ∷ fields) few = absurd (omega arith)

pub returns : goal.returns
returns c = sym (names_rise_short _ c.in_default.len_below) ∙ c.loop-rest.invariant
