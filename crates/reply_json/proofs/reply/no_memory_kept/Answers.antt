use Rattle.std.proofs.Common.{false}
use Rattle.reply_json.proofs.Printed.{no_memory_said}
use Rattle.reply_json.proofs.reply.no_memory_kept.Goals as goal

pub returns : goal.returns
returns c = no_memory_said false
