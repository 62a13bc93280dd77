-- So many first shards were published, and none was refused.
use Rattle.std.proofs.Common.{◌≡◌}
use Rattle.es_rest.specs.Led.{AreSealed}
use Rattle.es_rest.proofs.Refreshes.{Told}
use Rattle.es_rest.proofs.refresh.publish_all.Given as goal

abbrev pub invariant-loop-upto : goal.invariant-loop-upto
invariant-loop-upto g l =
    let s = g.V.Service in
    record {
      told : Told (s.limits l.initial.service) (s.seat l.initial.service) l.moment l.index l.numbers (s.front l.initial.service) (s.front l.service) l.upto-index;
      shard : l.shard ≡ l.upto-index;
      were_sealed : AreSealed (s.limits l.initial.service) (s.front l.service) l.index l.numbers;
      seat : s.seat l.service ≡ s.seat l.initial.service;
      limits : s.limits l.service ≡ s.limits l.initial.service;
    }
