use Rattle.npn_strong.specs.Fences.{npn_fence_is_formula, npn_fence_sound, npn_fence_sound_at, npn_fence_complete}
use Rattle.npn_strong.proofs.laws.npn_fences_ask_for_a_least_chain.Goals as goal

pub returns-clause-formula : goal.returns-clause-formula
returns-clause-formula c = npn_fence_is_formula

pub returns-clause-sound : goal.returns-clause-sound
returns-clause-sound c = npn_fence_sound

pub returns-clause-complete : goal.returns-clause-complete
returns-clause-complete c = npn_fence_complete

pub returns-clause-low : goal.returns-clause-low
returns-clause-low c = npn_fence_sound_at
