use Rattle.step_core.specs.OutLaws.{trivial_out}
use Rattle.step_core.proofs.outs.out_for.Goals as goal

pub returns-in-Some : goal.returns-in-Some
returns-in-Some c = trivial_out c.args.spec.now c.args.stack.now.steps c.args.h c.trivial.result c.in-Some.out c.trivial.ensures c.in-Some.is
