use Rattle.net_theory.proofs.LawProofs.{well_formed_circuit}
use Rattle.net_theory.proofs.laws.documents_have_circuits.Goals as goal

pub returns : goal.returns
returns c = well_formed_circuit
