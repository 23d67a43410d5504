use Rattle.strong_laws.specs.Fences.{strong_fence_is_formula, strong_fence_sound, strong_fence_sound_at, strong_fence_complete}
use Rattle.strong_laws.proofs.laws.strong_fences_ask_for_a_least_chain.Goals as goal

pub returns-clause-formula : goal.returns-clause-formula
returns-clause-formula c = strong_fence_is_formula

pub returns-clause-sound : goal.returns-clause-sound
returns-clause-sound c = strong_fence_sound

pub returns-clause-complete : goal.returns-clause-complete
returns-clause-complete c = strong_fence_complete

pub returns-clause-low : goal.returns-clause-low
returns-clause-low c = strong_fence_sound_at
