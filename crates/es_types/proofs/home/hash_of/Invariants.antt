-- The rest of the bytes makes the whole hash of the one so far.
use Rattle.std.proofs.Common.{◌≡◌, fold, drop}
use Rattle.es_types.specs.Homes.{hash_of, hash_step}
use Rattle.es_types.proofs.home.hash_of.Given as goal

abbrev pub invariant-loop-byte : goal.invariant-loop-byte
invariant-loop-byte l = fold hash_step l.hash (drop l.byte-index l.bytes) ≡ hash_of l.bytes
