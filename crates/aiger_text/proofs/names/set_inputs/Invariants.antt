use Rattle.std.proofs.Common.{◌≡◌, length}
use Rattle.aiger_text.specs.Naming.{with_names}
use Rattle.aiger_text.proofs.names.set_inputs.Given as goal

abbrev pub invariant-loop-literal : goal.invariant-loop-literal
invariant-loop-literal l = with_names l.names.items l.left l.named ≡ with_names l.initial.names.items l.literals l.others

abbrev pub decreases-loop-literal : goal.decreases-loop-literal
decreases-loop-literal l = length l.left
