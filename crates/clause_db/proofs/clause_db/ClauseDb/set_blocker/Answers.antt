use Rattle.clause_db.proofs.Databases.{whole_set}
use Rattle.clause_db.proofs.clause_db.ClauseDb.set_blocker.Goals as goal

pub invariant_of-self : goal.invariant_of-self
invariant_of-self c =
    whole_set c.self.inside.vars c.self.inside.live.items c.self.inside.watches c.args.self.now c.set.new.self c.args.lit c.args.by c.args.index
    c.self.view_is c.self.invariant c.requires.over c.requires.inside c.requires.there c.set.ensures
