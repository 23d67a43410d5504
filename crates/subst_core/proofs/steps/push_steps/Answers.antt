use Rattle.std.proofs.Common.{arith}
use Rattle.subst_core.proofs.Placings.{step_stands}
use Rattle.subst_core.proofs.steps.push_steps.Goals as goal

pub step_gate-requires-clause-first : goal.step_gate-requires-clause-first
step_gate-requires-clause-first c =
    (step_stands c.args.inputs.now c.args.steps.now c.loop-step.step-index c.step-item.result c.requires.steps c.loop-step-test.true c.step-item.is).j_from

pub step_gate-requires-clause-second : goal.step_gate-requires-clause-second
step_gate-requires-clause-second c =
    (step_stands c.args.inputs.now c.args.steps.now c.loop-step.step-index c.step-item.result c.requires.steps c.loop-step-test.true c.step-item.is).k_from

pub step_gate-requires-clause-first_room : goal.step_gate-requires-clause-first_room
step_gate-requires-clause-first_room c =
    let here = step_stands c.args.inputs.now c.args.steps.now c.loop-step.step-index c.step-item.result c.requires.steps c.loop-step-test.true c.step-item.is in
    omega (arith, here.j_below, c.requires.room, c.loop-step-test.true)

pub step_gate-requires-clause-second_room : goal.step_gate-requires-clause-second_room
step_gate-requires-clause-second_room c =
    let here = step_stands c.args.inputs.now c.args.steps.now c.loop-step.step-index c.step-item.result c.requires.steps c.loop-step-test.true c.step-item.is in
    omega (arith, here.k_below, c.requires.room, c.loop-step-test.true)
