use Rattle.window_theory.specs.FaninConeLaws.{has_leaves, leaves_one}
use Rattle.window_theory.specs.CareLaws.{values_real, care_real, window_real}
use Rattle.window_theory.proofs.laws.real_rows_are_care_rows.Goals as goal

pub returns-clause-leaves : goal.returns-clause-leaves
returns-clause-leaves c = has_leaves

pub returns-clause-one : goal.returns-clause-one
returns-clause-one c = leaves_one

pub returns-clause-values : goal.returns-clause-values
returns-clause-values c = values_real

pub returns-clause-rows : goal.returns-clause-rows
returns-clause-rows c = care_real

pub returns-clause-window : goal.returns-clause-window
returns-clause-window c = window_real
