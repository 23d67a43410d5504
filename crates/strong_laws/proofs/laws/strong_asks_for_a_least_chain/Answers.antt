use Rattle.strong_laws.specs.Whole.{strong_is_formula, strong_sound, strong_complete}
use Rattle.strong_laws.proofs.laws.strong_asks_for_a_least_chain.Goals as goal

pub returns-clause-formula : goal.returns-clause-formula
returns-clause-formula c = strong_is_formula

pub returns-clause-sound : goal.returns-clause-sound
returns-clause-sound c = strong_sound

pub returns-clause-complete : goal.returns-clause-complete
returns-clause-complete c = strong_complete
