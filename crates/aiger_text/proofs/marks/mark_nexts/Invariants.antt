use Rattle.std.proofs.Common.{◌≡◌, length, map}
use Rattle.aiger_text.specs.Meaning.{with_marks, next_of}
use Rattle.aiger_text.proofs.marks.mark_nexts.Given as goal

abbrev pub invariant-loop-latch : goal.invariant-loop-latch
invariant-loop-latch l = with_marks l.marks.items (map next_of l.left) ≡ with_marks l.initial.marks.items (map next_of l.latches)

abbrev pub decreases-loop-latch : goal.decreases-loop-latch
decreases-loop-latch l = length l.left
