use Rattle.std.proofs.Common.{◌≡◌, ◌+◌, ◌-◌, ◌*◌, get_or, drop, sym, arith}
use Rattle.std.specs.Char.{digit_value}
use Rattle.http_wire.proofs.Numbers.{number_big, value_grows, value_more, digit_is}
use Rattle.http_wire.proofs.fields.number.Goals as goal

pub returns-then-value-limit-clause-is : goal.returns-then-value-limit-clause-is
returns-then-value-limit-clause-is c =
    let i = c.loop-digit.digit-index in
    let d = get_or c.args.digits.now i 0 in
    let ds = c.args.digits.now in
    let is = c.if-not-is_ascii_digit.ensures.cases in
    let value : digit_value d ≡ d - 48 = digit_is d (omega (arith, is)) (omega (arith, is)) in
    let more = value_more c.loop-digit.value ds i c.loop-digit-test.true in
    let grows = value_grows (c.loop-digit.value * 10 + digit_value d) (drop (i + 1) ds) in
    sym (number_big c.args.most c.args.limit ds (omega (arith, value, more, grows, c.loop-digit.invariant.value, c.if-value-limit.true)))
