use Rattle.cdcl_core.proofs.Settling.{searching_rest, visited_some, visited_all}
use Rattle.cdcl_core.proofs.search.Search.propagate.Goals as goal

pub returns-in-Some-clause-searching : goal.returns-in-Some-clause-searching
returns-in-Some-clause-searching c = searching_rest c.args.self.now c.propagate_watched.new.clauses
    c.propagate_watched.new.trail c.args.self.now.head c.requires.searching c.in_ok-conflict.ensures.rest
    c.in_ok-conflict.ensures.stored c.in_ok-conflict.ensures.whole

pub returns-in-None-clause-searching : goal.returns-in-None-clause-searching
returns-in-None-clause-searching c = searching_rest c.args.self.now c.propagate_watched.new.clauses
    c.propagate_watched.new.trail c.len-self.result c.requires.searching c.in_ok-conflict.ensures.rest
    c.in_ok-conflict.ensures.stored c.in_ok-conflict.ensures.whole

pub returns-in-Some-clause-visited : goal.returns-in-Some-clause-visited
returns-in-Some-clause-visited c = visited_some c.args.self.now c.propagate_watched.new.clauses
    c.propagate_watched.new.trail c.requires.visited c.in_ok-conflict.ensures.rest
    (rw c.in-Some.is at c.in_ok-conflict.ensures.some)

pub returns-in-None-clause-visited : goal.returns-in-None-clause-visited
returns-in-None-clause-visited c = visited_all c.args.self.now c.propagate_watched.new.clauses
    c.propagate_watched.new.trail c.len-self.result c.requires.visited c.in_ok-conflict.ensures.rest
    (rw c.in-None.is at c.in_ok-conflict.ensures.all) c.len-self.ensures.value
