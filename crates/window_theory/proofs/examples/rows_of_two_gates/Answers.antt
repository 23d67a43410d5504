use Rattle.window_theory.specs.RowExamples.{sources_are_leaves, ten_is_none}
use Rattle.window_theory.proofs.examples.rows_of_two_gates.Goals as goal

pub returns-clause-leaves : goal.returns-clause-leaves
returns-clause-leaves c = sources_are_leaves

pub returns-clause-none : goal.returns-clause-none
returns-clause-none c = ten_is_none
