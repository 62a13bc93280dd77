use Rattle.std.proofs.Common.{◌≡◌, ◌++◌, false, string_bytes, take}
use Rattle.reply_json.specs.Hits.{values_text}
use Rattle.reply_json.proofs.found.push_values.Given as goal

-- the values so far stand after what was there
abbrev pub invariant-loop-i : goal.invariant-loop-i
invariant-loop-i l = string_bytes l.out ≡ string_bytes l.initial.out ++ values_text false (take l.i l.values)
