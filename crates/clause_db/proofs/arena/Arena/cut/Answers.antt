use Rattle.clause_db.proofs.Gaps.{cut_laid, ids_laid}
use Rattle.clause_db.proofs.arena.Arena.cut.Goals as goal

pub invariant_of-self : goal.invariant_of-self
invariant_of-self c = (cut_laid c.args.self.now c.self.inside.row.items _ c.self.inside.starts.items c.args.end c.self.view_is c.self.invariant c.requires c.truncate.ensures.items).0

pub returns-clause-lists : goal.returns-clause-lists
returns-clause-lists c = (cut_laid c.args.self.now c.self.inside.row.items _ c.self.inside.starts.items c.args.end c.self.view_is c.self.invariant c.requires c.truncate.ensures.items).1

pub returns-clause-ids : goal.returns-clause-ids
returns-clause-ids c = ids_laid c.truncate.new.self.items c.self.inside.starts.items (invariant_of-self c)
