use Rattle.sat_theory.specs.Soundness.{no_assignment}
use Rattle.sat_theory.proofs.laws.refuted_is_unsatisfiable.Goals as goal

pub returns : goal.returns
returns c = no_assignment
