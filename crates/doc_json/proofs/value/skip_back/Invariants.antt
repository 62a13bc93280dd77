-- What is skipped later is what is skipped now.
use Rattle.std.proofs.Common.{◌≡◌, length, reverse}
use Rattle.doc_json.specs.Json.{skip_white}
use Rattle.doc_json.proofs.value.skip_back.Given as goal

abbrev pub invariant-back : goal.invariant-back
invariant-back l = skip_white (reverse l.rest) ≡ skip_white (reverse l.bytes)

abbrev pub decreases-back : goal.decreases-back
decreases-back l = length l.rest
