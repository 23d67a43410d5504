use Rattle.std.proofs.Common.{arith}
use Rattle.aiger_binary.proofs.Powers.{byte_low, more_low}
use Rattle.aiger_binary.proofs.codes.+number_in.Goals as goal

pub returns-then-byte-lt128-clause-low : goal.returns-then-byte-lt128-clause-low
returns-then-byte-lt128-clause-low t c =
    byte_low c.args.room c.from.result c.if-room-eq0.false (omega (arith, c.from.ensures, c.if-byte-lt128.true))

pub overflow_mul-result : goal.overflow_mul-result
overflow_mul-result t c = omega (arith, more_low c.args.room c.in_ok-more.more.number c.requires c.in_ok-more.ensures.low)

pub overflow_add-result : goal.overflow_add-result
overflow_add-result t c =
    omega (arith, c.from-2.ensures, more_low c.args.room c.in_ok-more.more.number c.requires c.in_ok-more.ensures.low)
