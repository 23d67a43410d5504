use Rattle.aiger_text.proofs.ReadBack.{files_read}
use Rattle.aiger_text.proofs.laws.files_are_read_back.Goals as goal

pub returns : goal.returns
returns c = files_read
