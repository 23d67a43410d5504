use Rattle.enc_laws.specs.Fence.{fence_is_formula, fence_sound, fence_complete}
use Rattle.enc_laws.specs.FenceLevels.{fence_sound_at}
use Rattle.enc_laws.proofs.laws.fences_ask_for_a_least_chain.Goals as goal

pub returns-clause-formula : goal.returns-clause-formula
returns-clause-formula c = fence_is_formula

pub returns-clause-sound : goal.returns-clause-sound
returns-clause-sound c = fence_sound

pub returns-clause-complete : goal.returns-clause-complete
returns-clause-complete c = fence_complete

pub returns-clause-low : goal.returns-clause-low
returns-clause-low c = fence_sound_at
