use Rattle.npn_strong.specs.CutHolds.{may_exchangeable, exchangeable_may}
use Rattle.npn_strong.proofs.laws.exchanges_are_decided.Goals as goal

pub returns-clause-sound : goal.returns-clause-sound
returns-clause-sound c = may_exchangeable

pub returns-clause-complete : goal.returns-clause-complete
returns-clause-complete c = exchangeable_may
