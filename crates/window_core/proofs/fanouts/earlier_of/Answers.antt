use Rattle.std.proofs.Common.{ap}
use Rattle.window_core.specs.Fanouts.{Fanouts}
use Rattle.window_core.specs.PartnerSearchLaws.{earlier_at}
use Rattle.window_core.proofs.fanouts.earlier_of.Goals as goal

pub returns : goal.returns
returns c =
    earlier_at c.args.net.now c.args.fanouts.now.earlier c.fanouts.inside.earlier.items c.args.node c.sources.result
    c.index.result.now c.requires.index.earlier (ap (λ (r : Fanouts). r.earlier) c.fanouts.view_is)
    c.sources.ensures.sources c.requires.gate c.index.ensures
