use Rattle.window_theory.specs.MeaningLaws.{chains_same, none_fewer}
use Rattle.window_theory.proofs.laws.specifications_are_one.Goals as goal

pub returns-clause-chains : goal.returns-clause-chains
returns-clause-chains c = chains_same

pub returns-clause-none : goal.returns-clause-none
returns-clause-none c = none_fewer
