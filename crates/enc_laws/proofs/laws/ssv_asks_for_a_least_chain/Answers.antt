use Rattle.enc_laws.specs.Ssv.{ssv_is_formula, ssv_sound, ssv_complete}
use Rattle.enc_laws.proofs.laws.ssv_asks_for_a_least_chain.Goals as goal

pub returns-clause-formula : goal.returns-clause-formula
returns-clause-formula c = ssv_is_formula

pub returns-clause-sound : goal.returns-clause-sound
returns-clause-sound c = ssv_sound

pub returns-clause-complete : goal.returns-clause-complete
returns-clause-complete c = ssv_complete
