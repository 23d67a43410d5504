use Rattle.aiger_laws.proofs.TextFormats.{aiger_is_format}
use Rattle.aiger_laws.proofs.aiger_is_a_format.Goals as goal

pub returns : goal.returns
returns c = aiger_is_format c.files_are_read_back.ensures
