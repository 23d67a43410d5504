use Rattle.std.proofs.Common.{◌≡◌}
use Rattle.aiger_binary.specs.Ascii.{stage, outputs_in}
use Rattle.aiger_binary.proofs.sections.push_outputs.Given as goal

abbrev pub invariant-loop-left : goal.invariant-loop-left
invariant-loop-left l = outputs_in l.left (stage l.out.items l.rest) ≡ outputs_in l.count (stage l.initial.out.items l.bytes)

abbrev pub decreases-loop-left : goal.decreases-loop-left
decreases-loop-left l = l.left
