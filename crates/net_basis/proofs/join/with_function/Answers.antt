use Rattle.std.proofs.Common.{arith}
use Rattle.net_basis.proofs.Sets.{grown_members}
use Rattle.net_basis.proofs.join.with_function.Goals as goal

pub returns-clause-members : goal.returns-clause-members
returns-clause-members c =
    rw (c.new.ensures, c.get.ensures.bits, c.get-2.ensures.word)
    (grown_members c.args.known c.args.function (omega (arith, c.get-2.ensures.word, c.get-2.ensures.below)))
