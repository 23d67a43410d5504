use Rattle.std.proofs.Common.{◌≡◌, ◌++◌, length, map}
use Rattle.net_theory.specs.Document.{latch_output}
use Rattle.match_core.proofs.lacking.names_of.Given as goal

abbrev pub invariant-loop-latch : goal.invariant-loop-latch
invariant-loop-latch l = l.names.items ++ map latch_output l.left ≡ map latch_output l.latches

abbrev pub decreases-loop-latch : goal.decreases-loop-latch
decreases-loop-latch l = length l.left
