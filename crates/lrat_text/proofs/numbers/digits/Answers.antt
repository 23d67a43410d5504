use Rattle.std.proofs.Common.{◌<◌, ◌+◌, ◌-◌, ◌*◌, arith, sym, ◌∙◌}
use Rattle.lrat_text.proofs.Prefixes.{digits_other, digits_above}
use Rattle.lrat_text.proofs.numbers.digits.Goals as goal

pub returns-then-not-is_ascii_digit-clause-none : goal.returns-then-not-is_ascii_digit-clause-none
returns-then-not-is_ascii_digit-clause-none c =
    digits_other c.args.limit c.loop-byte.value c.in-Some.byte.now c.args.text.now c.loop-byte.left.now c.in-Some.rest.now c.in-Some.ensures.cases.0 c.if-byte-eq32.false
    (sym c.is_ascii_digit.ensures.value ∙ c.if-not-is_ascii_digit.true) c.loop-byte.invariant.number

pub returns-then-next-from-clause-none : goal.returns-then-next-from-clause-none
returns-then-next-from-clause-none c =
    let above : c.args.limit < c.loop-byte.value * 10 + (c.in-Some.byte.now - 48) = omega (arith, c.from.ensures, c.from-in-Some.ensures, c.from-in-Some-2.ensures, c.if-next-from.true) in
    digits_above c.args.limit c.loop-byte.value c.in-Some.byte.now c.args.text.now c.loop-byte.left.now c.in-Some.rest.now c.in-Some.ensures.cases.0 c.if-byte-eq32.false
    (sym c.is_ascii_digit.ensures.value ∙ c.if-not-is_ascii_digit.false) above c.loop-byte.invariant.number
