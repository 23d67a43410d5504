use Rattle.blif_covers.proofs.LeastTexts.{least_well, least_describes, least_equivalent}
use Rattle.blif_covers.proofs.laws.least_documents_do_the_same.Goals as goal

pub returns-clause-well : goal.returns-clause-well
returns-clause-well c = λ k can. least_well k c.blif_is_a_format.ensures can

pub returns-clause-describes : goal.returns-clause-describes
returns-clause-describes c = λ k can. least_describes k c.blif_is_a_format.ensures can

pub returns-clause-equivalent : goal.returns-clause-equivalent
returns-clause-equivalent c = λ k can. least_equivalent k c.blif_is_a_format.ensures can
