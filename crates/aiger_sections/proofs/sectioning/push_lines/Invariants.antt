use Rattle.std.proofs.Common.{length}
use Rattle.aiger_sections.proofs.sectioning.push_lines.Given as goal

abbrev pub decreases-loop-text : goal.decreases-loop-text
decreases-loop-text l = length l.left
