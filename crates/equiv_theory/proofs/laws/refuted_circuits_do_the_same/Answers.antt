use Rattle.sat_theory.specs.Soundness.{no_assignment}
use Rattle.equiv_theory.specs.Miter.{miter}
use Rattle.equiv_theory.specs.FormulaLaws.{miter_formula}
use Rattle.equiv_theory.specs.CircuitLaws.{comparable, refuted_equivalent}
use Rattle.equiv_theory.proofs.laws.refuted_circuits_do_the_same.Goals as goal

pub returns : goal.returns
returns d c k lines of_c of_k same refutes =
    refuted_equivalent c k of_c of_k same (λ some. no_assignment (miter c.net k.net) lines some.0 (miter_formula c.net k.net (comparable c k of_c of_k same)) refutes some.1)
