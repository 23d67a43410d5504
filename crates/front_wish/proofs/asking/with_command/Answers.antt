use Rattle.front_wish.proofs.Questions.{ready}
use Rattle.front_wish.proofs.asking.with_command.Goals as goal

pub returns-clause-ready : goal.returns-clause-ready
returns-clause-ready c = ready c.args.aiger c.in-Ok.command c.asked_in.result c.in-Some.asked c.in-Ok.ensures.range
    c.asked_in.ensures c.in-Some.is
