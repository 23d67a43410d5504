use Rattle.std.proofs.Common.{◌≡◌, ◌++◌, length, map}
use Rattle.net_theory.specs.Document.{latch_output}
use Rattle.equiv_values.specs.Lines.{source_lines}
use Rattle.equiv_values.proofs.lines.push_latches.Given as goal

abbrev pub invariant-loop-latch : goal.invariant-loop-latch
invariant-loop-latch l = l.text.items ++ source_lines (map latch_output l.left) l.right ≡ l.initial.text.items ++ source_lines (map latch_output l.latches) l.bits

abbrev pub decreases-loop-latch : goal.decreases-loop-latch
decreases-loop-latch l = length l.left
