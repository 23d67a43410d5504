use Rattle.std.proofs.Common.{◌≡◌, length, map}
use Rattle.aiger_text.specs.Naming.{with_names, literal_of}
use Rattle.aiger_text.proofs.names.set_latches.Given as goal

abbrev pub invariant-loop-latch : goal.invariant-loop-latch
invariant-loop-latch l = with_names l.names.items (map literal_of l.left) l.named ≡ with_names l.initial.names.items (map literal_of l.latches) l.others

abbrev pub decreases-loop-latch : goal.decreases-loop-latch
decreases-loop-latch l = length l.left
