-- The subproblems of the level so far, and those left, are all of the level.
use Rattle.std.proofs.Common.{◌≡◌, ◌++◌, length}
use Rattle.std.specs.List.{filter}
use Rattle.depth_core.specs.Flattened.{at_level}
use Rattle.depth_core.proofs.levels.with_levels.Given as goal

abbrev pub invariant-loop-subproblem : goal.invariant-loop-subproblem
invariant-loop-subproblem l = l.own.items ++ filter (at_level l.levels) l.left ≡ filter (at_level l.levels) l.subproblems

abbrev pub decreases-loop-subproblem : goal.decreases-loop-subproblem
decreases-loop-subproblem l = length l.left
