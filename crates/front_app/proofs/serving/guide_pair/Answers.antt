use Rattle.front_app.proofs.Fronting.{guided_in}
use Rattle.front_app.proofs.serving.guide_pair.Goals as goal

pub returns : goal.returns
returns g c =
    guided_in g.F.KnownFormat.named g.G.KnownFormat.named c.format.result c.format-2.result _ _ c.format.ensures
    c.format-2.ensures c.guide.ensures
