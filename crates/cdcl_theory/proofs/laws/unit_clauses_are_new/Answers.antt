use Rattle.cdcl_theory.specs.PropagationLaws.{unit_is_unsubsumed}
use Rattle.cdcl_theory.proofs.laws.unit_clauses_are_new.Goals as goal

pub returns : goal.returns
returns c = unit_is_unsubsumed
