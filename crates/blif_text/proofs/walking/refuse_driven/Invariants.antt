use Rattle.std.proofs.Common.{◌≡◌, length}
use Rattle.blif_text.specs.Statements.{control_fault}
use Rattle.blif_text.proofs.walking.refuse_driven.Given as goal

abbrev pub invariant-loop-control : goal.invariant-loop-control
invariant-loop-control l = control_fault l.driven.keys l.left ≡ control_fault l.driven.keys l.controls

abbrev pub decreases-loop-control : goal.decreases-loop-control
decreases-loop-control l = length l.left
