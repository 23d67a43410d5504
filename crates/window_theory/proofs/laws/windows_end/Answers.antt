use Rattle.window_theory.specs.GrowthLaws.{window_size, window_partner, window_inputs, window_outputs}
use Rattle.window_theory.proofs.laws.windows_end.Goals as goal

pub returns-clause-longest : goal.returns-clause-longest
returns-clause-longest c = window_size

pub returns-clause-partner : goal.returns-clause-partner
returns-clause-partner c = window_partner

pub returns-clause-inputs : goal.returns-clause-inputs
returns-clause-inputs c = window_inputs

pub returns-clause-outputs : goal.returns-clause-outputs
returns-clause-outputs c = window_outputs
