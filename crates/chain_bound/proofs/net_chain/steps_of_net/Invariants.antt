-- The steps so far are at their places, and few.
use Rattle.std.proofs.Common.{◌≤◌, length}
use Rattle.chain_theory.specs.Chain.{AreSteps}
use Rattle.chain_core.specs.Steps.{steps_of}
use Rattle.chain_bound.proofs.net_chain.steps_of_net.Given as goal

abbrev pub invariant-loop-gate : goal.invariant-loop-gate
invariant-loop-gate l = AreSteps l.n (steps_of l.steps.items) × (length l.steps.items ≤ 16)
