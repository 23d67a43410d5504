use Rattle.chain_theory.specs.Operator.{digit}
use Rattle.step_core.specs.GroupLaws.{AreTouched}
use Rattle.step_core.proofs.shares.touched_by.Given as goal

abbrev pub invariant-loop-row : goal.invariant-loop-row
invariant-loop-row l = AreTouched l.spec l.stack.steps (digit l.reads) l.before (digit l.touched)
