use Rattle.observe_theory.specs.OneLaws.{fanout_cone_one, observed_same}
use Rattle.observe_theory.proofs.laws.observed_specifications_are_one.Goals as goal

pub returns-clause-fanout_cone : goal.returns-clause-fanout_cone
returns-clause-fanout_cone c = fanout_cone_one

pub returns-clause-chains : goal.returns-clause-chains
returns-clause-chains c = observed_same
