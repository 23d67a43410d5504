use Rattle.depth_theory.specs.DepthSpellings.{judged_spelled}
use Rattle.depth_theory.specs.DepthAgain.{judged_again}
use Rattle.depth_theory.proofs.laws.depths_are_spelled.Goals as goal

pub returns-clause-only : goal.returns-clause-only
returns-clause-only c = judged_spelled

pub returns-clause-each : goal.returns-clause-each
returns-clause-each c = judged_again
