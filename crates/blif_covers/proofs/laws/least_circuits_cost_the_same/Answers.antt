use Rattle.blif_covers.proofs.LeastTexts.{least_cost}
use Rattle.blif_covers.proofs.laws.least_circuits_cost_the_same.Goals as goal

pub returns : goal.returns
returns c = λ k can. least_cost k c.blif_is_a_format.ensures can
