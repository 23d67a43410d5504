use Rattle.strong_theory.specs.StrongVectors.{strong_fence_is_expected}
use Rattle.strong_theory.proofs.laws.strong_fence_is_that_of_another_program.Goals as goal

pub returns : goal.returns
returns c = strong_fence_is_expected
