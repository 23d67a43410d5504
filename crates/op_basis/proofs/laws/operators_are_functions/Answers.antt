use Rattle.op_basis.specs.Laws.{operator_values, operator_low, operator_only}
use Rattle.op_basis.proofs.laws.operators_are_functions.Goals as goal

pub returns-clause-values : goal.returns-clause-values
returns-clause-values c = operator_values

pub returns-clause-below : goal.returns-clause-below
returns-clause-below c = operator_low

pub returns-clause-only : goal.returns-clause-only
returns-clause-only c = operator_only
