-- What was filled in is the front of what was left.
use Rattle.std.proofs.Common.{◌≡◌, ◌+◌, List, ℕ, Some, length, take, drop, min, ap, subst, ◌∙◌}
use Rattle.es_outside.specs.Told.{Read}
use Rattle.es_outside.specs.Memory.{Feed}
use Rattle.es_outside.proofs.Filled.{filled}
use Rattle.es_outside.proofs.source.MemSourceSource.read.Goals as goal

pub returns-clause-bytes : goal.returns-clause-bytes
returns-clause-bytes c =
    let s = c.self.inside in
    let count = c.fill-count.result in
    let back : c.split_at.result.1.now ≡ drop s.at s.bytes = c.split_at.ensures.back ∙ ap (drop s.at) c.as_slice-2.ensures in
    let is : count ≡ min (min s.piece (length c.args.room.now)) (length (drop s.at s.bytes)) = c.fill-count.ensures.count ∙ ap (λ (l : List ℕ). min (min s.piece (length c.args.room.now)) (length l)) back in
    let same : take count c.fill-count.new.room ≡ take count (drop s.at s.bytes) = c.fill-count.ensures.same ∙ ap (take count) back in
    subst (λ (left : List ℕ). Read left (Some (drop (s.at + count) s.bytes)) c.fill-count.new.room count)
    (ap (λ (f : Feed). f.left) c.self.view_is)
    (filled s.bytes c.fill-count.new.room s.at count s.piece (length c.args.room.now) c.self.invariant.1 c.requires is same)
