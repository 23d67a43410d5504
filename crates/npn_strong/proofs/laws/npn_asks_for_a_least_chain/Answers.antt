use Rattle.npn_strong.specs.Whole.{npn_is_formula, npn_sound, npn_complete}
use Rattle.npn_strong.proofs.laws.npn_asks_for_a_least_chain.Goals as goal

pub returns-clause-formula : goal.returns-clause-formula
returns-clause-formula c = npn_is_formula

pub returns-clause-sound : goal.returns-clause-sound
returns-clause-sound c = npn_sound

pub returns-clause-complete : goal.returns-clause-complete
returns-clause-complete c = npn_complete
