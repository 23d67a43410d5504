use Rattle.window_theory.specs.CarePartLaws.{row_shown, row_found}
use Rattle.window_theory.proofs.laws.care_rows_are_shown.Goals as goal

pub returns-clause-shown : goal.returns-clause-shown
returns-clause-shown c = row_shown

pub returns-clause-found : goal.returns-clause-found
returns-clause-found c = row_found
