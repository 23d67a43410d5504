use Rattle.frame_core.proofs.Pieces.{all_of_none, prefix_of_none}
use Rattle.frame_core.proofs.reporting.+write_fields.Goals as goal

pub returns-in_default-clause-all : goal.returns-in_default-clause-all
returns-in_default-clause-all g t c = all_of_none _ _ c.in_default.ensures.cases

pub returns-in_default-clause-prefix : goal.returns-in_default-clause-prefix
returns-in_default-clause-prefix g t c = prefix_of_none _ _ c.in_default.ensures.cases
