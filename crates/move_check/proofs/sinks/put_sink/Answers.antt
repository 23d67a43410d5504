use Rattle.std.proofs.Common.{subst, length}
use Rattle.net_theory.specs.Net.{IsSigBelow}
use Rattle.move_check.specs.SinkLaws.{map_put}
use Rattle.move_check.proofs.sinks.put_sink.Goals as goal

pub returns-then-node-sources-clause-map : goal.returns-then-node-sources-clause-map
returns-then-node-sources-clause-map c = λ end below is.
    map_put c.args.sources end c.in-Node.node c.args.nodes.now c.args.other c.if-node-sources.true
    (subst (IsSigBelow (length c.args.nodes.now)) c.in-Node.is c.requires.within).1 below is
