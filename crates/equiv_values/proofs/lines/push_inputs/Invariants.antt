use Rattle.std.proofs.Common.{◌≡◌, ◌++◌, length}
use Rattle.equiv_values.specs.Lines.{source_lines}
use Rattle.equiv_values.proofs.lines.push_inputs.Given as goal

abbrev pub invariant-loop-name : goal.invariant-loop-name
invariant-loop-name l = l.text.items ++ source_lines l.left l.right ≡ l.initial.text.items ++ source_lines l.names l.bits

abbrev pub decreases-loop-name : goal.decreases-loop-name
decreases-loop-name l = length l.left
