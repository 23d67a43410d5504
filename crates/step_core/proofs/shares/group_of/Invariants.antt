use Rattle.chain_theory.specs.Operator.{digit}
use Rattle.step_core.specs.GroupLaws.{IsGroup}
use Rattle.step_core.proofs.shares.group_of.Given as goal

abbrev pub invariant-loop-round : goal.invariant-loop-round
invariant-loop-round l = IsGroup l.spec l.stack.steps (digit l.reads) l.output (digit l.group)
