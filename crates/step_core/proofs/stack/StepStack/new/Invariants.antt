use Rattle.step_core.specs.StackLaws.{AreInputs}
use Rattle.step_core.proofs.stack.StepStack.new.Given as goal

abbrev pub invariant-loop-before : goal.invariant-loop-before
invariant-loop-before l = AreInputs l.n l.before l.words.items
