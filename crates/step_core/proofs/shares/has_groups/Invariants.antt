use Rattle.chain_theory.specs.Operator.{digit}
use Rattle.step_core.specs.GroupLaws.{AreGroups}
use Rattle.step_core.proofs.shares.has_groups.Given as goal

abbrev pub invariant-loop-output : goal.invariant-loop-output
invariant-loop-output l = AreGroups l.spec l.stack.steps (digit l.reads) (digit l.starts) (digit l.covered) l.output
