use Rattle.cmd_agree.proofs.Asking.{question_spelled, question_back}
use Rattle.cmd_agree.proofs.laws.laws_of_questions.Goals as goal

pub returns : goal.returns
returns c = λ bytes question. (question_spelled bytes question, question_back bytes question)
