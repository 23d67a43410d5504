use Rattle.std.proofs.Common.{◌≡◌, ◌<◌, ℕ}
use Rattle.chain_theory.specs.Operator.{digit}
use Rattle.step_core.specs.Steps.{is_missing}
use Rattle.step_core.proofs.refuting.missing_outputs.Given as goal

abbrev pub invariant-loop-output : goal.invariant-loop-output
invariant-loop-output l = (i : ℕ) → i < l.output → digit l.mask i ≡ is_missing l.spec l.stack.steps i
