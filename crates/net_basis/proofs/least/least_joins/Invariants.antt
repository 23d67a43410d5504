-- No chain has fewer than `steps` steps.
use Rattle.op_basis.specs.Basis.{members}
use Rattle.net_basis.proofs.ShortestChains.{HasNoFewer}
use Rattle.net_basis.proofs.least.least_joins.Given as goal

abbrev pub invariant-loop-steps : goal.invariant-loop-steps
invariant-loop-steps l = HasNoFewer (members l.basis) l.function l.steps
