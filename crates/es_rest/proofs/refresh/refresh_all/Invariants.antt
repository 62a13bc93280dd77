-- So many first indexes were refreshed.
use Rattle.std.proofs.Common.{◌≡◌}
use Rattle.es_rest.proofs.Refreshes.{Cleared}
use Rattle.es_rest.proofs.refresh.refresh_all.Given as goal

abbrev pub invariant-loop-index : goal.invariant-loop-index
invariant-loop-index g l =
    let s = g.V.Service in
    record {
      cleared : Cleared (s.limits l.initial.service) (s.seat l.initial.service) l.moment l.indexes (s.front l.initial.service) (s.front l.service) l.index-index;
      seat : s.seat l.service ≡ s.seat l.initial.service;
      limits : s.limits l.service ≡ s.limits l.initial.service;
    }
