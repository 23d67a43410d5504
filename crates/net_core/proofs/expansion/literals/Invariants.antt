use Rattle.std.proofs.Common.{◌≡◌, ◌++◌, length}
use Rattle.net_theory.specs.Expansion.{literals}
use Rattle.net_core.proofs.expansion.literals.Given as goal

abbrev pub invariant-loop-byte : goal.invariant-loop-byte
invariant-loop-byte l = l.all.items ++ literals l.bytes l.left ≡ literals l.cube l.inputs

abbrev pub decreases-loop-byte : goal.decreases-loop-byte
decreases-loop-byte l = length l.bytes
