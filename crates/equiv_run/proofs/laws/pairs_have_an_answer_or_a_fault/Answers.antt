use Rattle.equiv_run.specs.PairLaws.{answer_never, fault_one, two_never}
use Rattle.equiv_run.proofs.laws.pairs_have_an_answer_or_a_fault.Goals as goal

pub returns-clause-apart : goal.returns-clause-apart
returns-clause-apart c = answer_never

pub returns-clause-one : goal.returns-clause-one
returns-clause-one c = fault_one

pub returns-clause-sound : goal.returns-clause-sound
returns-clause-sound c = two_never
