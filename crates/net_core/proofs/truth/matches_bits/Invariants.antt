use Rattle.std.proofs.Common.{◌≡◌, length}
use Rattle.net_theory.specs.Cover.{matches}
use Rattle.net_core.proofs.truth.matches_bits.Given as goal

abbrev pub invariant-loop-byte : goal.invariant-loop-byte
invariant-loop-byte l = matches l.bytes l.left ≡ matches l.cube l.bits

abbrev pub decreases-loop-byte : goal.decreases-loop-byte
decreases-loop-byte l = length l.bytes
