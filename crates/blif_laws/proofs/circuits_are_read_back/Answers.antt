use Rattle.blif_laws.proofs.TextLaws.{text_is}
use Rattle.blif_laws.proofs.circuits_are_read_back.Goals as goal

pub returns : goal.returns
returns c = text_is
