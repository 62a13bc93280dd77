-- The reader's answer is what the bytes are.
use Rattle.std.proofs.Common.{sym, ◌∙◌}
use Rattle.std.proofs.lemmas.Bool.{false≢true}
use Rattle.doc_json.proofs.Bytes.{data_text, data_none}
use Rattle.doc_json.proofs.value.read_data.Goals as goal

pub returns-in-Ok : goal.returns-in-Ok
returns-in-Ok c = sym (data_text c.args.bytes.now c.in-Ok.ensures.ok.0 ∙ c.in-Ok.ensures.ok.1)

pub returns-else-is_memory : goal.returns-else-is_memory
returns-else-is_memory c = sym (data_none c.args.bytes.now (λ text. c.in-Err.ensures.err (λ memory. false≢true (c.if-is_memory.ensures.1 memory)) text))
