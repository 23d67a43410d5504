use Rattle.front_core.proofs.Certificates.{parted}
use Rattle.front_core.proofs.certifying.certify.Goals as goal

pub returns : goal.returns
returns g c = parted c.args.name.now (g.K.Work.does c.args.work.now) _ _ _ _ _ _ _ _ _ _ _ _ _
    c.work-ended.result c.show-after.result c.settle.result c.in-Ok.ensures.unchanged c.in-Ok.ensures.empty
    c.work-ended.ensures c.show-after.ensures c.settle.ensures
