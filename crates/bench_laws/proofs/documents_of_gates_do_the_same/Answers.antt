use Rattle.bench_laws.proofs.GateDocuments.{gates_well, gates_describe, gates_cost}
use Rattle.bench_laws.proofs.documents_of_gates_do_the_same.Goals as goal

pub returns-clause-well : goal.returns-clause-well
returns-clause-well c = gates_well

pub returns-clause-describes : goal.returns-clause-describes
returns-clause-describes c = gates_describe

pub returns-clause-cost : goal.returns-clause-cost
returns-clause-cost c = gates_cost
