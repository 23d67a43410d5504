use Rattle.enc_theory.specs.SsvVectors.{ssv_is_expected}
use Rattle.enc_theory.proofs.laws.ssv_is_that_of_another_program.Goals as goal

pub returns : goal.returns
returns c = ssv_is_expected
