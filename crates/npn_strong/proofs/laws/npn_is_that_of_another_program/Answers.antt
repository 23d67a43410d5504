use Rattle.npn_strong.specs.NpnVectors.{npn_is_expected, npn_fence_is_expected}
use Rattle.npn_strong.proofs.laws.npn_is_that_of_another_program.Goals as goal

pub returns-clause-ssv : goal.returns-clause-ssv
returns-clause-ssv c = npn_is_expected

pub returns-clause-fence : goal.returns-clause-fence
returns-clause-fence c = npn_fence_is_expected
