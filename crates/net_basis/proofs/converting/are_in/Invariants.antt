-- The gates so far are of the basis.
use Rattle.std.proofs.Common.{◌≡◌, length}
use Rattle.op_basis.specs.Basis.{members}
use Rattle.net_basis.specs.Conversion.{are_in}
use Rattle.net_basis.proofs.converting.are_in.Given as goal

abbrev pub invariant-loop-gate : goal.invariant-loop-gate
invariant-loop-gate l = are_in (members l.basis) l.left ≡ are_in (members l.basis) l.gates

abbrev pub decreases-loop-gate : goal.decreases-loop-gate
decreases-loop-gate l = length l.left
