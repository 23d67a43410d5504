use Rattle.enc_laws.specs.Fence.{fence_complete_at}
use Rattle.enc_laws.proofs.laws.few_levels_have_a_listed_fence.Goals as goal

pub returns : goal.returns
returns c = fence_complete_at
