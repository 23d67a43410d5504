use Rattle.std.proofs.Common.{◌≡◌, ◌-◌, ◌≤◌, [], vec_len}
use Rattle.text_core.specs.Lines.{lines_of}
use Rattle.text_core.specs.Rest.{IsRest}
use Rattle.chain_theory.specs.Chain.{AreSteps}
use Rattle.chain_core.specs.Steps.{steps_of}
use Rattle.chain_core.specs.Block as block
use Rattle.chain_core.proofs.reading.steps_from.Given as goal

abbrev pub invariant-loop-left : goal.invariant-loop-left
invariant-loop-left l = record {
  read : block.steps_from l.frame (steps_of l.steps.items) (lines_of l.left) ≡ block.steps_from l.frame [] (lines_of l.bytes);
  steps : AreSteps l.frame.n (steps_of l.steps.items);
  few : vec_len l.steps ≤ l.frame.steps;
  rest : IsRest l.bytes l.left;
}

abbrev pub decreases-loop-left : goal.decreases-loop-left
decreases-loop-left l = l.frame.steps - vec_len l.steps
