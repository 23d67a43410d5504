use Rattle.std.proofs.Common.{◌≡◌, ℕ, ◌<◌, Some, take}
use Rattle.std.specs.Prelude.{slice_get}
use Rattle.net_theory.specs.declared.data.Sig.TheVariants.{Node}
use Rattle.lane_sim.specs.Cone.{IsSigAmong}
use Rattle.lane_sim.proofs.checking.are_new.Given as goal

abbrev pub invariant-loop-i : goal.invariant-loop-i
invariant-loop-i l = (k p : ℕ) → k < l.i → slice_get l.leaves k ≡ Some p → IsSigAmong (take k l.leaves) (Node p) → ⊥
