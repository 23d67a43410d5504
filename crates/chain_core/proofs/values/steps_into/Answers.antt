use Rattle.std.proofs.Common.{◌+◌, ◌<◌, arith, ap, length, ◌∙◌}
use Rattle.chain_core.specs.Steps.{step_of, steps_of}
use Rattle.chain_core.specs.Bits.{bits}
use Rattle.chain_core.proofs.Places.{values_after-set}
use Rattle.chain_core.specs.StepLaws.{other_steps}
use Rattle.chain_core.proofs.values.steps_into.Goals as goal

pub loop-step-preserved : goal.loop-step-preserved
unfolding bits
loop-step-preserved c =
    let split = c.in-Some.ensures.cases.0 in
    let inside : c.loop-step.last + 1 < length c.loop-step.values = omega (arith, ap length split) in
    record {
      steps = other_steps _ _ _ (rw split at c.loop-step.invariant.steps);
      room = omega (arith, ap length split);
      values = values_after-set c.loop-step.values c.loop-step.last (step_of c.in-Some.step.now)
          (steps_of c.in-Some.rest.now) c.apply.result inside c.apply.ensures ∙ rw split at c.loop-step.invariant.values;
    }
