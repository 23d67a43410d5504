use Rattle.sat_theory.specs.Soundness.{no_assignment}
use Rattle.lrat_check.proofs.laws.refuted_is_unsatisfiable.Goals as goal

pub returns-clause-refutes : goal.returns-clause-refutes
returns-clause-refutes c = λ f lines checked accepted reached. record { holds = accepted.holds; reaches = accepted.refuted.0 reached }

pub returns-clause-none : goal.returns-clause-none
returns-clause-none c = λ f lines checked v accepted reached satisfies. no_assignment f lines v accepted.formula (record { holds = accepted.holds; reaches = accepted.refuted.0 reached }) satisfies
