-- The digits are counted and read up to the first byte that isn't one, or to the end.
use Rattle.std.proofs.Common.{◌≡◌, true, get_or, length, sym, ◌∙◌, arith, below_more}
use Rattle.std.specs.Char.{is_ascii_digit}
use Rattle.es_types.proofs.Times.{counted, one_digit_more}
use Rattle.es_types.proofs.time.digits_in.Goals as goal

pub returns-then-not-is_ascii_digit-clause-count : goal.returns-then-not-is_ascii_digit-clause-count
returns-then-not-is_ascii_digit-clause-count c = sym (counted c.args.text.now c.loop-i.i (omega arith) c.loop-i.invariant.digits (λ within. sym c.if-not-is_ascii_digit.ensures.value))

pub returns-then-not-is_ascii_digit-clause-number : goal.returns-then-not-is_ascii_digit-clause-number
returns-then-not-is_ascii_digit-clause-number c = rw (← returns-then-not-is_ascii_digit-clause-count c) c.loop-i.invariant.number

pub loop-i-preserved : goal.loop-i-preserved
loop-i-preserved c =
    let digit : is_ascii_digit (get_or c.args.text.now c.loop-i.i 0) ≡ true = sym c.if-not-is_ascii_digit.ensures.value in
    record {
      number = c.min-number.ensures ∙ one_digit_more c.args.text.now c.loop-i.i c.loop-i.number c.loop-i-test.true digit c.loop-i.invariant.number;
      digits = below_more _ _ c.loop-i.invariant.digits digit;
    }

pub returns-clause-count : goal.returns-clause-count
returns-clause-count c = let whole : c.loop-i.i ≡ length c.args.text.now = omega arith in
    sym whole ∙ sym (counted c.args.text.now c.loop-i.i (omega arith) c.loop-i.invariant.digits (λ within. absurd (omega arith)))

pub returns-clause-number : goal.returns-clause-number
returns-clause-number c = let whole : c.loop-i.i ≡ length c.args.text.now = omega arith in
    rw (← returns-clause-count c, ← whole) c.loop-i.invariant.number
