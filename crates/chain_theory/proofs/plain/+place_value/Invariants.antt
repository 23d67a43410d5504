use Rattle.std.proofs.Common.{length}
use Rattle.chain_theory.proofs.plain.+place_value.Given as goal

abbrev pub decreases-place_value : goal.decreases-place_value
decreases-place_value l = length l.steps.now
