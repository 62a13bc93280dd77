use Rattle.std.proofs.Common.{◌∙◌}
use Rattle.std.proofs.lemmas.Slice.{pushed}
use Rattle.reply_json.proofs.Printed.{framed}
use Rattle.reply_json.proofs.frame.frame.Goals as goal

pub returns : goal.returns
returns c =
    c.of.ensures
    ∙ pushed c.args.body.now
    (pushed c.as_bytes-head.result.now c.in_ok-bytes.ensures.items c.in_ok-extend_from_slice.was c.extend_from_slice.ensures.items)
    c.in_ok-extend_from_slice-2.was c.extend_from_slice-2.ensures.items
    ∙ framed c.args.status c.phrase.result.now c.close_line.result.now c.as_bytes-head.result.now c.args.body.now c.args.last
    c.phrase.ensures c.close_line.ensures (c.as_bytes-head.ensures.value ∙ c.in_ok-head.ensures)
