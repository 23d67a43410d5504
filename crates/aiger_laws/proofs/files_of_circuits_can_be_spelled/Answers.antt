use Rattle.aiger_laws.proofs.WrittenFile.{written_aig}
use Rattle.aiger_laws.proofs.files_of_circuits_can_be_spelled.Goals as goal

pub returns : goal.returns
returns c = written_aig
