use Rattle.batsokemi_c.specs.PairLaws.{pair_answered}
use Rattle.batsokemi_c.proofs.laws.pairs_answer.Goals as goal

pub returns : goal.returns
returns c = pair_answered
