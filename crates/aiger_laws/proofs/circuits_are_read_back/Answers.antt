use Rattle.aiger_laws.proofs.TextLaws.{text_is}
use Rattle.aiger_laws.proofs.circuits_are_read_back.Goals as goal

pub returns : goal.returns
returns c = text_is c.files_are_read_back.ensures
