-- What is given so far are the values of the members from here on.
use Rattle.std.proofs.Common.{◌≡◌, map, drop}
use Rattle.es_types.specs.Fit.{values_named}
use Rattle.es_types.proofs.fit.given_values.Given as goal

abbrev pub invariant-loop-i : goal.invariant-loop-i
invariant-loop-i l = map (λ value. value.now) l.given.items ≡ values_named l.mapping (drop l.i l.members)
