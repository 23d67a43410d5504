use Rattle.cdcl_core.proofs.UnderWay.{searching_scoped, visited_scoped, restarted_scoped}
use Rattle.cdcl_core.proofs.search.Search.begin_assuming.Goals as goal

pub returns-clause-searching : goal.returns-clause-searching
returns-clause-searching c = searching_scoped c.go_to_root.new.self c.limit_work.new.scope c.go_to_root.ensures.searching

pub returns-clause-visited : goal.returns-clause-visited
returns-clause-visited c = visited_scoped c.go_to_root.new.self c.limit_work.new.scope c.go_to_root.ensures.visited

pub returns-clause-restarted : goal.returns-clause-restarted
returns-clause-restarted c = restarted_scoped c.args.self.now c.go_to_root.new.self c.limit_work.new.scope c.go_to_root.ensures.restarted
