use Rattle.blif_covers.proofs.LeastTexts.{least_is_format}
use Rattle.blif_covers.proofs.laws.least_is_a_format.Goals as goal

pub returns : goal.returns
returns c = least_is_format c.blif_is_a_format.ensures c.documents_are_read_back.ensures
