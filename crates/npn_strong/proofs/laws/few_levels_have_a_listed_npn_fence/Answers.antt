use Rattle.npn_strong.specs.Fences.{npn_fence_complete_at}
use Rattle.npn_strong.proofs.laws.few_levels_have_a_listed_npn_fence.Goals as goal

pub returns : goal.returns
returns c = npn_fence_complete_at
