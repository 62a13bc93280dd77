-- What is found so far is the bound of the rows from here on.
use Rattle.std.proofs.Common.{drop}
use Rattle.es_types.specs.declared.mapping.FieldKind.TheVariants as kind
use Rattle.es_query.specs.Limits.{bound_of, values_at}
use Rattle.es_query.proofs.Widening.{AreLongs}
use Rattle.es_query.proofs.bounds.longs_at.Given as goal

abbrev pub invariant-loop-i : goal.invariant-loop-i
invariant-loop-i l = AreLongs l.found (bound_of (values_at kind.Long l.place (drop l.i l.rows)))
