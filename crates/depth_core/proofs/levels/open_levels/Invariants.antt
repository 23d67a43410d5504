-- The first open fence is among those left.
use Rattle.std.proofs.Common.{◌≡◌, length}
use Rattle.depth_theory.specs.DepthCertificate.{open_levels}
use Rattle.depth_core.proofs.levels.open_levels.Given as goal

abbrev pub invariant-loop-subproblem : goal.invariant-loop-subproblem
invariant-loop-subproblem l = open_levels l.left ≡ open_levels l.fn.subproblems

abbrev pub decreases-loop-subproblem : goal.decreases-loop-subproblem
decreases-loop-subproblem l = length l.left
