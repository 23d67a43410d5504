use Rattle.std.proofs.Common.{◌≡◌, ◌++◌, length}
use Rattle.aiger_text.specs.Meaning.{output_tables}
use Rattle.aiger_text.proofs.tables.push_outputs.Given as goal

abbrev pub invariant-loop-literal : goal.invariant-loop-literal
invariant-loop-literal l = l.tables.items ++ output_tables l.signals l.left l.named ≡ l.initial.tables.items ++ output_tables l.signals l.literals l.outputs

abbrev pub decreases-loop-literal : goal.decreases-loop-literal
decreases-loop-literal l = length l.left
