-- A program's chain as a chain of `chain_theory`, and its bounds.
use Rattle.std.specs.Prelude.{◌≤◌, List, length, map}
use Rattle.chain_theory.specs.Chain as chain
use Rattle.chain_core.specs.declared.step.Step.{Step}
use Rattle.chain_theory.specs.Limits.{most_steps, most_inputs, most_outputs}

-- a program's step as a step of `chain_theory`, with its operator as a number
abbrev pub step_of : Step → chain.Step
step_of s = record { j = s.j; k = s.k; op = s.op }

abbrev pub steps_of : List Step → List chain.Step
steps_of steps = map step_of steps

-- a chain within the bounds of programs
pub record IsSmallChain (c : chain.Chain) : Type 0 where
  pub chain : chain.IsChain c
  pub inputs : c.n ≤ most_inputs
  pub steps : length c.steps ≤ most_steps
  pub outs : length c.outs ≤ most_outputs
