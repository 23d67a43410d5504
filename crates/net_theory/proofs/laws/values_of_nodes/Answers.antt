use Rattle.net_theory.proofs.LawProofs.{value-source_node, value-gate_node}
use Rattle.net_theory.proofs.laws.values_of_nodes.Goals as goal

pub returns-clause-source : goal.returns-clause-source
returns-clause-source c = value-source_node

pub returns-clause-gate : goal.returns-clause-gate
returns-clause-gate c = value-gate_node
