use Rattle.bound_core.specs.Different.{outputs_few}
use Rattle.bound_core.proofs.laws.live_outputs_need_steps.Goals as goal

pub returns : goal.returns
returns c = outputs_few
