use Rattle.equiv_formats.specs.ComparisonLaws.{formats_apart, formats_one, formats_sound}
use Rattle.equiv_formats.proofs.laws.netlists_have_an_answer_or_a_fault.Goals as goal

pub returns-clause-apart : goal.returns-clause-apart
returns-clause-apart c = formats_apart

pub returns-clause-one : goal.returns-clause-one
returns-clause-one c = formats_one

pub returns-clause-sound : goal.returns-clause-sound
returns-clause-sound c = formats_sound
