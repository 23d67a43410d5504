use Rattle.std.proofs.Common.{length}
use Rattle.op_basis.specs.Basis.{members}
use Rattle.move_check.specs.Allowed.{AreAllowed}
use Rattle.move_check.proofs.operators.are_allowed.Given as goal

abbrev pub invariant-loop-gate : goal.invariant-loop-gate
invariant-loop-gate l = AreAllowed (members l.basis) l.net l.left → AreAllowed (members l.basis) l.net l.gates

abbrev pub decreases-loop-gate : goal.decreases-loop-gate
decreases-loop-gate l = length l.left
