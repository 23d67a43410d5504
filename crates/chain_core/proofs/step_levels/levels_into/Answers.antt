use Rattle.std.proofs.Common.{◌+◌, ◌<◌, ◌≤◌, arith, ap, length, ◌∙◌}
use Rattle.chain_core.specs.Steps.{step_of, steps_of}
use Rattle.chain_core.specs.StepLaws.{other_steps}
use Rattle.chain_core.specs.SliceLevels.{slice_levels}
use Rattle.chain_core.proofs.LevelRuns.{low_written, run-set}
use Rattle.chain_core.proofs.step_levels.levels_into.Goals as goal

pub overflow_add-levels : goal.overflow_add-levels
unfolding slice_levels
overflow_add-levels c =
    let room = c.loop-step.invariant.room in
    let few = c.requires.room.1 in
    omega (arith, c.max.ensures, c.loop-step.invariant.low c.in-Some.step.now.j, c.loop-step.invariant.low c.in-Some.step.now.k)

pub loop-step-preserved : goal.loop-step-preserved
unfolding slice_levels
loop-step-preserved c =
    let split = c.in-Some.ensures.cases.0 in
    let inside : c.loop-step.last + 1 < length c.loop-step.levels = omega (arith, ap length split) in
    let few : 1 + c.max.result ≤ c.loop-step.last + 1 = omega (arith, c.max.ensures, c.loop-step.invariant.low c.in-Some.step.now.j, c.loop-step.invariant.low c.in-Some.step.now.k) in
    record {
      steps = other_steps _ _ _ (rw split at c.loop-step.invariant.steps);
      room = omega (arith, ap length split);
      low = low_written c.loop-step.levels (c.loop-step.last + 1) (1 + c.max.result) c.loop-step.last inside c.loop-step.invariant.low few;
      levels = run-set c.loop-step.levels c.loop-step.last (step_of c.in-Some.step.now) (steps_of c.in-Some.rest.now)
          (1 + c.max.result) inside (omega (arith, c.max.ensures)) ∙ rw split at c.loop-step.invariant.levels;
    }
