use Rattle.std.proofs.Common.{arith}
use Rattle.equiv_core.proofs.comparing.compare.Goals as goal

pub swept-requires-clause-room : goal.swept-requires-clause-room
swept-requires-clause-room g c = rw c.in_ok-solver.ensures.vars (omega (arith, c.vars-vars.ensures.whole.few_variables))
