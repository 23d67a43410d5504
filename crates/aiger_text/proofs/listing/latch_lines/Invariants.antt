use Rattle.std.proofs.Common.{◌≡◌, ◌++◌, length, map}
use Rattle.aiger_text.specs.Meaning.{latch_line}
use Rattle.aiger_text.proofs.listing.latch_lines.Given as goal

abbrev pub invariant-loop-latch : goal.invariant-loop-latch
invariant-loop-latch l = l.lines.items ++ map (latch_line l.signals) l.left ≡ map (latch_line l.signals) l.latches

abbrev pub decreases-loop-latch : goal.decreases-loop-latch
decreases-loop-latch l = length l.left
