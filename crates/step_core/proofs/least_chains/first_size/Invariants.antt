use Rattle.op_basis.specs.Basis.{members}
use Rattle.step_core.specs.LeastChainLaws.{HasNoneBelow}
use Rattle.step_core.proofs.least_chains.first_size.Given as goal

abbrev pub invariant-loop-size : goal.invariant-loop-size
invariant-loop-size l = HasNoneBelow l.live (members l.basis) l.size
