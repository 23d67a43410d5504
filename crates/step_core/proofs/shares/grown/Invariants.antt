use Rattle.chain_theory.specs.Operator.{digit}
use Rattle.step_core.specs.GroupLaws.{IsGrown}
use Rattle.step_core.proofs.shares.grown.Given as goal

abbrev pub invariant-loop-before : goal.invariant-loop-before
invariant-loop-before l = IsGrown l.spec l.stack.steps (digit l.reads) (digit l.group) (digit l.wider)
