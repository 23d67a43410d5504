use Rattle.chain_theory.specs.ValueLaws.{value-input, value-step}
use Rattle.chain_theory.proofs.laws.values_of_places.Goals as goal

pub returns-clause-input : goal.returns-clause-input
returns-clause-input c = value-input

pub returns-clause-step : goal.returns-clause-step
returns-clause-step c = λ chain t i s is_chain at. value-step chain t i s is_chain.steps at
