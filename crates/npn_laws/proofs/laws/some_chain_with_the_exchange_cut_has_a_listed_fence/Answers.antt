use Rattle.npn_laws.specs.Least.{least_in_fence_with_cut}
use Rattle.npn_laws.proofs.laws.some_chain_with_the_exchange_cut_has_a_listed_fence.Goals as goal

pub returns : goal.returns
returns c = least_in_fence_with_cut
