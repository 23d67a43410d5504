use Rattle.bound_core.specs.Needed.{inputs_few}
use Rattle.bound_core.proofs.laws.inputs_in_use_need_steps.Goals as goal

pub returns : goal.returns
returns c = inputs_few
