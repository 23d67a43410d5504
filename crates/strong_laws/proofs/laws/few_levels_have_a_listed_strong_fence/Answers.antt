use Rattle.strong_laws.specs.Fences.{strong_fence_complete_at}
use Rattle.strong_laws.proofs.laws.few_levels_have_a_listed_strong_fence.Goals as goal

pub returns : goal.returns
returns c = strong_fence_complete_at
