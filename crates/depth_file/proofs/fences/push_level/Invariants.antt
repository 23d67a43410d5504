-- The fences with `levels` levels added so far, and those left, are all with that number of levels.
use Rattle.std.proofs.Common.{◌≡◌, ◌++◌, length, map}
use Rattle.std.specs.List.{filter}
use Rattle.enc_theory.specs.declared.subproblem.Subproblem.TheVariants.{Levels}
use Rattle.depth_theory.specs.Flatter.{has_levels}
use Rattle.depth_file.proofs.fences.push_level.Given as goal

abbrev pub invariant-loop-fence : goal.invariant-loop-fence
invariant-loop-fence l = l.subproblems.items ++ map Levels (filter (has_levels l.levels) l.left) ≡ l.initial.subproblems.items ++ map Levels (filter (has_levels l.levels) l.fences)

abbrev pub decreases-loop-fence : goal.decreases-loop-fence
decreases-loop-fence l = length l.left
