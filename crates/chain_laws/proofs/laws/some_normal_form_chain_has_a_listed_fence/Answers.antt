use Rattle.chain_laws.specs.Fences.{least_in_fence}
use Rattle.chain_laws.proofs.laws.some_normal_form_chain_has_a_listed_fence.Goals as goal

pub returns : goal.returns
returns c = least_in_fence
