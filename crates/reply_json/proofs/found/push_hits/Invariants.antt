use Rattle.std.proofs.Common.{◌≡◌, ◌++◌, false, take}
use Rattle.reply_json.specs.Hits.{hits_text}
use Rattle.reply_json.proofs.found.push_hits.Given as goal

-- the hits so far stand after what was there
abbrev pub invariant-loop-i : goal.invariant-loop-i
invariant-loop-i l = l.out.items ≡ l.initial.out.items ++ hits_text false (take l.i l.hits)
