use Rattle.clause_db.proofs.Starts.{id_at_start}
use Rattle.clause_db.proofs.arena.Arena.start.Goals as goal

pub returns-clause-id : goal.returns-clause-id
returns-clause-id c = id_at_start c.args.self.now c.self.inside.row.items c.self.inside.starts.items c.args.index _ c.self.view_is c.self.invariant.0 c.requires c.index.ensures
