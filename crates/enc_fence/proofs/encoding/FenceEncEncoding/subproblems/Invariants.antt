use Rattle.std.proofs.Common.{◌≡◌, map}
use Rattle.enc_theory.specs.declared.subproblem.Subproblem.TheVariants.{Levels}
use Rattle.enc_fence.proofs.encoding.FenceEncEncoding.subproblems.Given as goal

abbrev pub invariant-loop-fence : goal.invariant-loop-fence
invariant-loop-fence l = l.subproblems.items ≡ map Levels l.yielded
