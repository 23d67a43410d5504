use Rattle.based.specs.BasedLaws.{left_proper}
use Rattle.based.proofs.cleaning.cleaned.Goals as goal

pub returns-clause-proper : goal.returns-clause-proper
returns-clause-proper c =
    left_proper c.args.circuit c.with_net.result c.in_ok-net.net c.requires c.in_ok-net.ensures.implements c.with_net.ensures
