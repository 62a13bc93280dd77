-- Some first items were gone through, and those of the actions that are left are still to come.
use Rattle.std.proofs.Common.{◌≡◌, length}
use Rattle.std.specs.Prelude.{All}
use Rattle.std.specs.Vec.Iter.{into_iter_items, into_iter_len}
use Rattle.doc_json.specs.Bulks.{LiesIn}
use Rattle.es_route.specs.Items.{items_with}
use Rattle.es_rest.proofs.Bulks.{Gone}
use Rattle.es_rest.proofs.bulk.write_items.Given as goal

abbrev pub invariant-loop-action : goal.invariant-loop-action
invariant-loop-action g l =
    let s = g.V.Service in
    record {
      gone : Gone (s.limits l.initial.service) (s.seat l.initial.service) l.moment (items_with l.body l.fn.items.items) (s.front l.initial.service) (s.front l.service) l.written
          (items_with l.body (into_iter_items l.action-iterator));
      within : All (LiesIn l.body) (into_iter_items l.action-iterator);
      counted : into_iter_len l.action-iterator ≡ length (into_iter_items l.action-iterator);
      seat : s.seat l.service ≡ s.seat l.initial.service;
      limits : s.limits l.service ≡ s.limits l.initial.service;
    }
