use Rattle.std.proofs.Common.{◌≡◌, ℕ, ◌+◌, ◌≤◌, length}
use Rattle.chain_theory.specs.Chain.{AreSteps}
use Rattle.chain_core.specs.Steps.{steps_of}
use Rattle.chain_theory.specs.Levels.{levels_after}
use Rattle.chain_core.specs.SliceLevels.{slice_levels}
use Rattle.chain_core.proofs.step_levels.levels_into.Given as goal

abbrev pub invariant-loop-step : goal.invariant-loop-step
invariant-loop-step l = record {
  steps : AreSteps l.last (steps_of l.left);
  room : l.last + length l.left ≡ l.n + length l.steps;
  low : (p : ℕ) → slice_levels l.levels p ≤ l.last;
  levels : levels_after (slice_levels l.levels) (l.last + 1) (steps_of l.left) ≡ levels_after (slice_levels l.initial.levels) (l.n + 1) (steps_of l.steps);
}

abbrev pub decreases-loop-step : goal.decreases-loop-step
decreases-loop-step l = length l.left
