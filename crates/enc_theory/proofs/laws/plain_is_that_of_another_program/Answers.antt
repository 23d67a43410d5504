use Rattle.enc_theory.specs.PlainVectors.{plain_is_expected}
use Rattle.enc_theory.proofs.laws.plain_is_that_of_another_program.Goals as goal

pub returns : goal.returns
returns c = plain_is_expected
