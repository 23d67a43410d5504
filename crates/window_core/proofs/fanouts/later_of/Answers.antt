use Rattle.std.proofs.Common.{length, ap}
use Rattle.net_theory.specs.declared.data.Gate.{Gate}
use Rattle.window_core.specs.Fanouts.{Fanouts}
use Rattle.window_core.specs.AfterLaws.{later_at}
use Rattle.window_core.proofs.fanouts.later_of.Goals as goal

pub returns : goal.returns
returns c =
    later_at c.args.net.now c.args.fanouts.now.later c.fanouts.inside.later.items c.args.node c.sources.result
    (length c.gates-gates.result.now) c.index.result.now c.requires.index.later
    (ap (λ (r : Fanouts). r.later) c.fanouts.view_is) c.sources.ensures.sources
    (ap (length {A = Gate}) c.gates-gates.ensures.gates) c.requires.gate c.index.ensures
