use Rattle.std.proofs.Common.{◌≡◌, ◌+◌, length}
use Rattle.net_theory.specs.Cost.{literal_sum}
use Rattle.net_core.proofs.costs.literal_total.Given as goal

abbrev pub invariant-loop-cube : goal.invariant-loop-cube
invariant-loop-cube l = l.total + literal_sum l.left ≡ literal_sum l.cubes

abbrev pub decreases-loop-cube : goal.decreases-loop-cube
decreases-loop-cube l = length l.left
