use Rattle.std.proofs.Common.{ap, ◌∙◌, arith}
use Rattle.text_core.specs.Numbers.{number_up_to}
use Rattle.text_core.specs.ReadBack.{free_decimal, number_back, number_spells}
use Rattle.text_core.proofs.laws.laws_of_numbers.Goals as goal

pub returns-clause-read : goal.returns-clause-read
returns-clause-read c = λ limit n text narrow. (number_spells limit n text (omega arith), λ written. ap (number_up_to limit) written.1 ∙ number_back limit n (omega arith) written.0)

pub returns-clause-apart : goal.returns-clause-apart
returns-clause-apart c = λ n byte narrow low. free_decimal byte n low (omega arith)
