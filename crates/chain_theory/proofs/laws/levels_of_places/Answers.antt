use Rattle.chain_theory.specs.LevelLaws.{input_level, level_step}
use Rattle.chain_theory.proofs.laws.levels_of_places.Goals as goal

pub returns-clause-input : goal.returns-clause-input
returns-clause-input c = λ chain p low. input_level chain.n p chain.steps low

pub returns-clause-step : goal.returns-clause-step
returns-clause-step c = λ chain i s is_chain at. level_step chain.n chain.steps is_chain.steps i s at
