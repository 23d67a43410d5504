use Rattle.std.proofs.Common.{◌≡◌, ◌++◌, length, map}
use Rattle.net_theory.specs.Document.{latch_output, latch_of}
use Rattle.aiger_text.proofs.listing.push_latch_outputs.Given as goal

abbrev pub invariant-loop-line : goal.invariant-loop-line
invariant-loop-line l = l.names.items ++ map latch_output (map latch_of l.left) ≡ l.initial.names.items ++ map latch_output (map latch_of l.latches)

abbrev pub decreases-loop-line : goal.decreases-loop-line
decreases-loop-line l = length l.left
