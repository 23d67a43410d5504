use Rattle.std.proofs.Common.{◌≡◌, length, map}
use Rattle.net_theory.specs.Document.{latch_output}
use Rattle.net_theory.specs.Naming.{each_once}
use Rattle.net_core.proofs.naming.take_latches.Given as goal

abbrev pub invariant-loop-latch : goal.invariant-loop-latch
invariant-loop-latch l = each_once l.taken.keys (map latch_output l.left) ≡ each_once l.initial.taken.keys (map latch_output l.latches)

abbrev pub decreases-loop-latch : goal.decreases-loop-latch
decreases-loop-latch l = length l.left
