use Rattle.std.proofs.Common.{◌≡◌, ◌++◌, length}
use Rattle.text_core.specs.Lines.{lines_of}
use Rattle.aiger_sections.specs.Plain.{lines_in}
use Rattle.aiger_sections.proofs.lines.push_lines.Given as goal

abbrev pub invariant-loop-text : goal.invariant-loop-text
invariant-loop-text l = l.out.items ++ lines_in l.sections l.kept (lines_of l.left) ≡
    l.initial.out.items ++ lines_in l.sections l.count (lines_of l.bytes)

abbrev pub decreases-loop-text : goal.decreases-loop-text
decreases-loop-text l = length l.left
