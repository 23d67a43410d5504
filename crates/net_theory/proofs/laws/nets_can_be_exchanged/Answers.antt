use Rattle.net_theory.specs.ExchangeLaws.{exchanged_proper, exchanged_describes, implements_on}
use Rattle.net_theory.proofs.laws.nets_can_be_exchanged.Goals as goal

pub returns-clause-proper : goal.returns-clause-proper
returns-clause-proper c = exchanged_proper

pub returns-clause-describes : goal.returns-clause-describes
returns-clause-describes c = exchanged_describes

pub returns-clause-again : goal.returns-clause-again
returns-clause-again c = implements_on
