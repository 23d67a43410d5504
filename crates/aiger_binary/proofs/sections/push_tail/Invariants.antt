use Rattle.std.proofs.Common.{◌≡◌, ◌++◌, length}
use Rattle.text_core.specs.Lines.{lines_of}
use Rattle.aiger_binary.specs.Ascii.{tail_of}
use Rattle.aiger_binary.proofs.sections.push_tail.Given as goal

abbrev pub invariant-loop-text : goal.invariant-loop-text
invariant-loop-text l = l.out.items ++ tail_of (lines_of l.left) ≡ l.initial.out.items ++ tail_of (lines_of l.bytes)

abbrev pub decreases-loop-text : goal.decreases-loop-text
decreases-loop-text l = length l.left
