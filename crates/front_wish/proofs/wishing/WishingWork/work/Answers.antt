use Rattle.front_wish.proofs.Runs.{performed}
use Rattle.front_wish.proofs.wishing.WishingWork.work.Goals as goal

pub returns : goal.returns
returns g c = performed c.args.self.now.format c.args.self.now.settings c.args.self.now.wishes _ _ _ _ c.perform.result
    c.perform.ensures
