use Rattle.batsokemi_c.specs.PairLaws.{pair_refused, first_long, second_too_long, not_compared}
use Rattle.batsokemi_c.proofs.laws.pairs_refuse.Goals as goal

pub returns-clause-faults : goal.returns-clause-faults
returns-clause-faults c = pair_refused

pub returns-clause-long_first : goal.returns-clause-long_first
returns-clause-long_first c = first_long

pub returns-clause-long_second : goal.returns-clause-long_second
returns-clause-long_second c = second_too_long

pub returns-clause-usage : goal.returns-clause-usage
returns-clause-usage c = not_compared
