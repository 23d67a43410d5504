use Rattle.chain_theory.specs.LevelLaws.{depth-bound, depth-least}
use Rattle.chain_theory.proofs.laws.depth_is_the_greatest_level.Goals as goal

pub returns-clause-bound : goal.returns-clause-bound
returns-clause-bound c = depth-bound

pub returns-clause-least : goal.returns-clause-least
returns-clause-least c = depth-least
