use Rattle.std.proofs.Common.{◌≡◌, ℕ, ◌<◌, Some, take}
use Rattle.std.specs.Prelude.{slice_get}
use Rattle.net_theory.specs.declared.data.Gate.{Gate}
use Rattle.lane_sim.specs.Checking.{numbered, MayComeNext}
use Rattle.lane_sim.proofs.checking.are_next.Given as goal

abbrev pub invariant-loop-i : goal.invariant-loop-i
invariant-loop-i l = (k : ℕ) (x : ℕ × Gate) → k < l.i → slice_get l.gates k ≡ Some x → MayComeNext (numbered l.leaves (take k l.gates)) x
