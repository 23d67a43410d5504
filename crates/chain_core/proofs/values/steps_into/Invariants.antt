use Rattle.std.proofs.Common.{◌≡◌, ◌+◌, length}
use Rattle.chain_theory.specs.Chain.{AreSteps}
use Rattle.chain_theory.specs.Value.{values_after}
use Rattle.chain_core.specs.Steps.{steps_of}
use Rattle.chain_core.specs.Bits.{bits}
use Rattle.chain_core.proofs.values.steps_into.Given as goal

abbrev pub invariant-loop-step : goal.invariant-loop-step
invariant-loop-step l = record {
  steps : AreSteps l.last (steps_of l.left);
  room : l.last + length l.left ≡ l.n + length l.steps;
  values : values_after (bits l.values) (l.last + 1) (steps_of l.left) ≡ values_after (bits l.initial.values) (l.n + 1) (steps_of l.steps);
}

abbrev pub decreases-loop-step : goal.decreases-loop-step
decreases-loop-step l = length l.left
