use Rattle.std.proofs.Common.{◌≡◌, ◌++◌, false, take}
use Rattle.reply_json.specs.Bulk.{lines_text}
use Rattle.reply_json.proofs.bulk.push_lines.Given as goal

-- the items so far stand after what was there
abbrev pub invariant-loop-i : goal.invariant-loop-i
invariant-loop-i l = l.out.items ≡ l.initial.out.items ++ lines_text false (take l.i l.lines)
