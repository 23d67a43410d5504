use Rattle.enc_laws.specs.Laws.{plain_is_formula, plain_sound, plain_complete}
use Rattle.enc_laws.proofs.laws.plain_asks_for_a_chain.Goals as goal

pub returns-clause-formula : goal.returns-clause-formula
returns-clause-formula c = plain_is_formula

pub returns-clause-sound : goal.returns-clause-sound
returns-clause-sound c = plain_sound

pub returns-clause-complete : goal.returns-clause-complete
returns-clause-complete c = plain_complete
