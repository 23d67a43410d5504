use Rattle.std.proofs.Common.{length}
use Rattle.chain_theory.proofs.plain.+place_level.Given as goal

abbrev pub decreases-place_level : goal.decreases-place_level
decreases-place_level l = length l.steps.now
