-- A part is a text, or it isn't.
use Rattle.std.proofs.Common.{◌≡◌, sym, ap, subst, ◌∙◌}
use Rattle.std.specs.Prelude.{IsUtf8, Ok, Err}
use Rattle.reply_json.specs.declared.fault.RestFault.TheVariants.{BadParam}
use Rattle.percent_encoding.specs.declared.DecodeError.TheVariants.{Utf8, OutOfMemory}
use Rattle.es_route.proofs.Parts.{decoded_ok, decoded_err}
use Rattle.es_route.proofs.paths.decoded.Goals as goal

pub returns-in_ok-into_owned-in-Ok : goal.returns-in_ok-into_owned-in-Ok
returns-in_ok-into_owned-in-Ok c =
    decoded_ok c.args.name.now c.args.part.now (subst IsUtf8 c.percent_decode.ensures.bytes c.in-Ok.ensures.ok_only_if_utf8)
    ∙ ap Ok (sym c.percent_decode.ensures.bytes ∙ (sym c.in-Ok.ensures.value ∙ (sym c.in_ok-into_owned-in-Ok.ensures.ok ∙ sym c.of.ensures)))

pub returns-in_ok-name-in-Err-Utf8 : goal.returns-in_ok-name-in-Err-Utf8
returns-in_ok-name-in-Err-Utf8 c =
    decoded_err c.args.name.now c.args.part.now (λ text. absurd (let e : Utf8 c.in-Err-Utf8.field-0-0 ≡ OutOfMemory = sym c.in-Err-Utf8.field-0-is ∙ c.in-Err-Utf8.ensures.utf8 (subst IsUtf8 (sym c.percent_decode.ensures.bytes) text) in cc))
    ∙ ap (λ n. Err (BadParam n)) (sym c.in_ok-name-in-Err-Utf8.ensures.ok ∙ sym c.of-in-Err-Utf8.ensures)
