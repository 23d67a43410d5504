use Rattle.blif_laws.proofs.Spelled.{read_back}
use Rattle.blif_laws.proofs.documents_are_read_back.Goals as goal

pub returns : goal.returns
returns c = read_back
