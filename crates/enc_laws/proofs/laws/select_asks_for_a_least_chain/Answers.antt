use Rattle.enc_laws.specs.Select.{select_is_formula, select_sound, select_complete}
use Rattle.enc_laws.proofs.laws.select_asks_for_a_least_chain.Goals as goal

pub returns-clause-formula : goal.returns-clause-formula
returns-clause-formula c = select_is_formula

pub returns-clause-sound : goal.returns-clause-sound
returns-clause-sound c = select_sound

pub returns-clause-complete : goal.returns-clause-complete
returns-clause-complete c = select_complete
