use Rattle.batsokemi_c.specs.AnsweringLaws.{answered_with}
use Rattle.batsokemi_c.proofs.laws.calls_answer.Goals as goal

pub returns : goal.returns
returns c = answered_with
