-- The stack of the steps that the enumeration has placed.
use Rattle.std.specs.Prelude.{◌≡◌, ℕ, ◌+◌, ◌-◌, ◌≤◌, List, length, slice_index}
use Rattle.chain_theory.specs.Chain.{Step, AreSteps}
use Rattle.step_core.specs.Steps.{word_in}
use Rattle.chain_theory.specs.Limits.{most_inputs}
use Rattle.step_core.specs.Limits.{most_enumerated_steps}

-- steps over n inputs
pub record StackView : Type 0 where
  pub n : ℕ
  pub steps : List Step

-- few inputs and few steps
pub record IsStepStack (t : StackView) : Type 0 where
  pub inputs : t.n ≤ most_inputs
  pub few : length t.steps ≤ most_enumerated_steps
  pub are : AreSteps t.n t.steps

-- with the truth table of each place: the inputs' first, then the steps'
pub record HasStepWords (t : StackView) (words : List ℕ) : Type 0 where
  pub stack : IsStepStack t
  pub count : length words ≡ t.n + length t.steps
  pub each : (p : ℕ) → 1 ≤ p → p ≤ t.n + length t.steps → slice_index words (p - 1) ≡ word_in t.n t.steps p
