-- What `parse` gives is the number of the digits.
use Rattle.std.proofs.Common.{ap, sym, ◌∙◌}
use Rattle.std.specs.Prelude.{option_and_then}
use Rattle.std.specs.Result.{result_ok}
use Rattle.doc_json.specs.Indexes.{is_numeral, small}
use Rattle.doc_json.proofs.Numerals.{numeral_read}
use Rattle.doc_json.proofs.index.whole_in.Goals as goal

pub returns-in-Ok : goal.returns-in-Ok
returns-in-Ok c =
    let is = ap is_numeral (sym c.as_bytes.ensures.value) ∙ (sym c.is_numeral.ensures ∙ c.if-not-is_numeral.false) in
    let read = numeral_read c.args.text.now c.parse.result is c.parse.ensures.value.0 in
    c.small.ensures ∙ sym (read ∙ ap (λ found. option_and_then small (result_ok found)) c.in-Ok.is)

pub returns-in-Err : goal.returns-in-Err
returns-in-Err c =
    let is = ap is_numeral (sym c.as_bytes.ensures.value) ∙ (sym c.is_numeral.ensures ∙ c.if-not-is_numeral.false) in
    let read = numeral_read c.args.text.now c.parse.result is c.parse.ensures.value.0 in
    sym (read ∙ ap (λ found. option_and_then small (result_ok found)) c.in-Err.is)
