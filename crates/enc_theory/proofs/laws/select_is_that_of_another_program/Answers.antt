use Rattle.enc_theory.specs.SelectVectors.{select_is_expected}
use Rattle.enc_theory.proofs.laws.select_is_that_of_another_program.Goals as goal

pub returns : goal.returns
returns c = select_is_expected
