use Rattle.std.proofs.Common.{length}
use Rattle.net_theory.proofs.plain.+matches_bits.Given as goal

abbrev pub decreases-matches_bits : goal.decreases-matches_bits
decreases-matches_bits l = length l.cube.now
