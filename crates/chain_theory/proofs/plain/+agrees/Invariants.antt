use Rattle.std.proofs.Common.{length}
use Rattle.chain_theory.proofs.plain.+agrees.Given as goal

abbrev pub decreases-agrees : goal.decreases-agrees
decreases-agrees l = length l.outs.now
