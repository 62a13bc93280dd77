-- The parameters so far, and those that are left.
use Rattle.std.proofs.Common.{◌≡◌, ◌++◌, map}
use Rattle.form_urlencoded.specs.Parse.{pairs_left}
use Rattle.es_route.specs.Params.{params_of}
use Rattle.es_route.proofs.Queries.{param_of}
use Rattle.es_route.proofs.params.params_of.Given as goal

abbrev pub invariant-loop-pair : goal.invariant-loop-pair
invariant-loop-pair l =
    record {
      params : l.params.items ++ map param_of (pairs_left l.pair-iterator) ≡ params_of l.query;
      next : (goal.iterator-loop-pair).can_next l.pair-iterator;
      finite : (goal.iterator-loop-pair).is_finite l.pair-iterator;
    }
