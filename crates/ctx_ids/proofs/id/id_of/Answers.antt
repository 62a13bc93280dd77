-- What the nine bytes are, by what they are decoded from.
use Rattle.std.proofs.Common.{◌≡◌, ◌≢◌, ◌≤◌, take, length, Ok, sym, ◌∙◌, arith}
use Rattle.std.proofs.lemmas.List.{take_all, length-take-le}
use Rattle.base64.specs.GeneralPurpose.{decode_of}
use Rattle.base64.specs.Engines.{url_safe_no_pad}
use Rattle.ctx_ids.proofs.Texts.{found_in, found_text, id_of_bytes, id_of_none, id_of_shorter, id_of_undecoded}
use Rattle.ctx_ids.proofs.id.id_of.Goals as goal

pub returns-then-text-ne12-clause-is : goal.returns-then-text-ne12-clause-is
returns-then-text-ne12-clause-is c = sym (id_of_none c.args.text.now (λ i. let fits = c.type_inv.text i in omega arith) c.if-text-ne12.true)

pub returns-then-count-eq9-clause-is : goal.returns-then-count-eq9-clause-is
returns-then-count-eq9-clause-is c =
    let nine : length c.decode_slice_unchecked.new.output ≤ c.in-Ok.count = omega arith in
    let read : decode_of url_safe_no_pad c.args.text.now ≡ Ok c.decode_slice_unchecked.new.output = rw (take_all _ _ nine) at c.in-Ok.ensures.ok.0 in
    c.id_in.ensures.is ∙ sym (id_of_bytes _ _ read)

pub returns-then-count-eq9-clause-found : goal.returns-then-count-eq9-clause-found
returns-then-count-eq9-clause-found c =
    let nine : length c.decode_slice_unchecked.new.output ≤ c.in-Ok.count = omega arith in
    let read : decode_of url_safe_no_pad c.args.text.now ≡ Ok c.decode_slice_unchecked.new.output = rw (take_all _ _ nine) at c.in-Ok.ensures.ok.0 in
    found_text _ _ _ (λ i. let fits = c.type_inv.text i in omega arith) read (found_in _ _ c.id_in.ensures.bytes c.id_in.ensures.is)

pub returns-else-count-eq9-clause-is : goal.returns-else-count-eq9-clause-is
returns-else-count-eq9-clause-is c =
    let some : c.in-Ok.count ≤ length c.decode_slice_unchecked.new.output = omega (arith, c.in-Ok.ensures.ok.2) in
    let other : length (take c.in-Ok.count c.decode_slice_unchecked.new.output) ≢ 9 = rw (length-take-le _ _ some) c.if-count-eq9.false in
    sym (id_of_shorter _ _ c.in-Ok.ensures.ok.0 other)

pub returns-in-Err-clause-is : goal.returns-in-Err-clause-is
returns-in-Err-clause-is c = sym (id_of_undecoded _ _ c.in-Err.ensures.err)
