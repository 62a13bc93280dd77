-- What is skipped later is what is skipped now.
use Rattle.std.proofs.Common.{◌≡◌, length}
use Rattle.doc_json.specs.Json.{skip_white}
use Rattle.doc_json.proofs.value.skip_front.Given as goal

abbrev pub invariant-front : goal.invariant-front
invariant-front l = skip_white l.rest ≡ skip_white l.bytes

abbrev pub decreases-front : goal.decreases-front
decreases-front l = length l.rest
