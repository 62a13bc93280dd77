-- The bounds so far and those of the fields that are left.
use Rattle.std.proofs.Common.{◌≡◌, ◌++◌, drop}
use Rattle.es_query.specs.Limits.{bounds_from}
use Rattle.es_query.proofs.bounds.bounds_of.Given as goal

abbrev pub invariant-loop-i : goal.invariant-loop-i
invariant-loop-i l = bounds_from 0 l.fields l.rows ≡ l.bounds.items ++ bounds_from l.i (drop l.i l.fields) l.rows
