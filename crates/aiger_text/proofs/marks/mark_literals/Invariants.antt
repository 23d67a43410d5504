use Rattle.std.proofs.Common.{◌≡◌, length}
use Rattle.aiger_text.specs.Meaning.{with_marks}
use Rattle.aiger_text.proofs.marks.mark_literals.Given as goal

abbrev pub invariant-loop-literal : goal.invariant-loop-literal
invariant-loop-literal l = with_marks l.marks.items l.left ≡ with_marks l.initial.marks.items l.literals

abbrev pub decreases-loop-literal : goal.decreases-loop-literal
decreases-loop-literal l = length l.left
