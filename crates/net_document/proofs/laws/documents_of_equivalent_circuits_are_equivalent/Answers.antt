use Rattle.net_document.specs.EquivalenceLaws.{equivalent_same, describes_equivalent, equivalent_exchanged}
use Rattle.net_document.proofs.laws.documents_of_equivalent_circuits_are_equivalent.Goals as goal

pub returns-clause-same : goal.returns-clause-same
returns-clause-same c = equivalent_same

pub returns-clause-describes : goal.returns-clause-describes
returns-clause-describes c = describes_equivalent

pub returns-clause-exchanged : goal.returns-clause-exchanged
returns-clause-exchanged c = equivalent_exchanged
