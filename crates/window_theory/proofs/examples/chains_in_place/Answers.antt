use Rattle.window_theory.specs.Examples.{nand_not_is_and, out_is_input, out_is_constant, two_are_one}
use Rattle.window_theory.proofs.examples.chains_in_place.Goals as goal

pub returns-clause-nand_not : goal.returns-clause-nand_not
returns-clause-nand_not c = nand_not_is_and

pub returns-clause-input : goal.returns-clause-input
returns-clause-input c = out_is_input

pub returns-clause-constant : goal.returns-clause-constant
returns-clause-constant c = out_is_constant

pub returns-clause-two : goal.returns-clause-two
returns-clause-two c = two_are_one
