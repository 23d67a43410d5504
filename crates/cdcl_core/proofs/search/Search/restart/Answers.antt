use Rattle.cdcl_core.proofs.Restarting.{searching_counted, visited_counted}
use Rattle.cdcl_core.proofs.search.Search.restart.Goals as goal

pub backtrack_to_root-requires-clause-searching : goal.backtrack_to_root-requires-clause-searching
backtrack_to_root-requires-clause-searching c = searching_counted c.args.self.now c.count.new.self c.requires.searching

pub backtrack_to_root-requires-clause-visited : goal.backtrack_to_root-requires-clause-visited
backtrack_to_root-requires-clause-visited c = visited_counted c.args.self.now c.count.new.self c.requires.visited
