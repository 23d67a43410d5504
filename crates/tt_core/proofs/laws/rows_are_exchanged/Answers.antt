use Rattle.tt_core.specs.Laws.{exchanged_input, exchanged_low}
use Rattle.tt_core.proofs.laws.rows_are_exchanged.Goals as goal

pub returns-clause-bits : goal.returns-clause-bits
returns-clause-bits c = exchanged_input

pub returns-clause-row : goal.returns-clause-row
returns-clause-row c = exchanged_low
