use Rattle.chain_theory.specs.Operator.{digit}
use Rattle.step_core.specs.ClashLaws.{AreAlikeRows}
use Rattle.step_core.proofs.determined.alike.Given as goal

abbrev pub invariant-loop-before : goal.invariant-loop-before
invariant-loop-before l = AreAlikeRows l.stack.n l.stack.steps (digit l.reads) l.row l.same l.before
