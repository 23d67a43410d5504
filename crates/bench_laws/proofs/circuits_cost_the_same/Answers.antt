use Rattle.bench_laws.proofs.CircuitTexts.{cost_is}
use Rattle.bench_laws.proofs.circuits_cost_the_same.Goals as goal

pub returns : goal.returns
returns c circuit can = cost_is circuit c.blif_is_a_format.ensures can
