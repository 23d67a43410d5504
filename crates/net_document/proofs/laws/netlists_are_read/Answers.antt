use Rattle.net_document.specs.FormatLaws.{refused_memory, fault_never, fault_one}
use Rattle.net_document.proofs.laws.netlists_are_read.Goals as goal

pub returns-clause-netlist : goal.returns-clause-netlist
returns-clause-netlist c = refused_memory

pub returns-clause-faultless : goal.returns-clause-faultless
returns-clause-faultless c = fault_never

pub returns-clause-one : goal.returns-clause-one
returns-clause-one c = fault_one
