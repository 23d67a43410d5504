use Rattle.equiv_theory.specs.FormulaLaws.{miter_formula}
use Rattle.equiv_theory.specs.MiterLaws.{miter_sound, miter_complete, satisfied_differ}
use Rattle.equiv_theory.proofs.laws.miters_ask_for_a_difference.Goals as goal

pub returns-clause-formula : goal.returns-clause-formula
returns-clause-formula c = miter_formula

pub returns-clause-sound : goal.returns-clause-sound
returns-clause-sound c = miter_sound

pub returns-clause-complete : goal.returns-clause-complete
returns-clause-complete c = miter_complete

pub returns-clause-shown : goal.returns-clause-shown
returns-clause-shown c = satisfied_differ
