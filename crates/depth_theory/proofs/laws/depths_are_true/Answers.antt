use Rattle.depth_theory.specs.DepthMeanings.{depth_means}
use Rattle.depth_theory.proofs.laws.depths_are_true.Goals as goal

pub returns : goal.returns
returns c = depth_means
