use Rattle.net_basis.specs.InexpressibleLaws.{inexpressible_none}
use Rattle.net_basis.proofs.laws.no_chain_is_an_inexpressible_operator.Goals as goal

pub returns : goal.returns
returns c = inexpressible_none
