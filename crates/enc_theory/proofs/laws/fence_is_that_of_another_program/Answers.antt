use Rattle.enc_theory.specs.FenceVectors.{fence_is_expected}
use Rattle.enc_theory.proofs.laws.fence_is_that_of_another_program.Goals as goal

pub returns : goal.returns
returns c = fence_is_expected
