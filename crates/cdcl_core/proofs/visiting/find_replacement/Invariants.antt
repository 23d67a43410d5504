use Rattle.cdcl_core.specs.Visiting.{AreFalse}
use Rattle.cdcl_core.proofs.visiting.find_replacement.Given as goal

abbrev pub invariant-loop-place : goal.invariant-loop-place
invariant-loop-place l = AreFalse l.trail l.lits l.low l.place
