-- The functions of the steps below `code` are tried.
use Rattle.std.proofs.Common.{◌-◌}
use Rattle.op_basis.specs.Basis.{members}
use Rattle.net_basis.proofs.ShortestChains.{AreTried}
use Rattle.net_basis.proofs.least.+chain_within.Given as goal

abbrev pub decreases-chain_within : goal.decreases-chain_within
decreases-chain_within l = l.most

abbrev pub invariant-loop-code : goal.invariant-loop-code
invariant-loop-code l = AreTried (members l.basis) (members l.known) (members l.tried) l.function (l.most - 1) l.code
