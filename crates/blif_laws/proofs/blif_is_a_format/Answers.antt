use Rattle.blif_laws.proofs.TextLaws.{blif_is_format}
use Rattle.blif_laws.proofs.blif_is_a_format.Goals as goal

pub returns : goal.returns
returns c = blif_is_format
