use Rattle.npn_laws.specs.Least.{least_with_cut}
use Rattle.npn_laws.proofs.laws.some_least_chain_meets_the_exchange_cut.Goals as goal

pub returns : goal.returns
returns c = least_with_cut
