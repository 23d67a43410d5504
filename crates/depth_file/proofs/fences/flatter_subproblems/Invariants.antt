-- The fences with the levels so far.
use Rattle.std.proofs.Common.{◌≡◌, map}
use Rattle.enc_theory.specs.declared.subproblem.Subproblem.TheVariants.{Levels}
use Rattle.depth_theory.specs.Flatter.{by_levels}
use Rattle.depth_file.proofs.fences.flatter_subproblems.Given as goal

abbrev pub invariant-loop-below : goal.invariant-loop-below
invariant-loop-below l = l.subproblems.items ≡ map Levels (by_levels l.listed.items l.below)
