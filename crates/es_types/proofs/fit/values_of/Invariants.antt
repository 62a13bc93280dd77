-- The values so far, and then those of the fields that are left, are the values of all fields.
use Rattle.std.proofs.Common.{◌≡◌, map, drop, List}
use Rattle.es_types.specs.Fields.{fit, fit_from}
use Rattle.es_types.specs.Fit.{values_named}
use Rattle.es_types.specs.declared.doc.Member.{Member}
use Rattle.es_types.proofs.Fitted.{after}
use Rattle.es_types.proofs.fit.values_of.Given as goal

abbrev pub invariant-loop-i : goal.invariant-loop-i
invariant-loop-i l = (members : List Member) → map (λ value. value.now) l.given ≡ values_named l.fields members → fit l.fields members ≡ after l.values.items (fit_from l.i (drop l.i l.fields) members)
