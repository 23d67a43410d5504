use Rattle.cdcl_core.proofs.Writing.{searching_after, visited_after, logged_after, reduced_noted}
use Rattle.cdcl_core.proofs.search.Search.reduce_db.Goals as goal

pub delete_learnt-requires-clause-searching : goal.delete_learnt-requires-clause-searching
delete_learnt-requires-clause-searching c = searching_after c.args.self.now c.due_deletions.new.self c.due_deletions.ensures c.requires.searching

pub delete_learnt-requires-clause-visited : goal.delete_learnt-requires-clause-visited
delete_learnt-requires-clause-visited c = visited_after c.args.self.now c.due_deletions.new.self c.due_deletions.ensures c.requires.visited

pub returns-clause-reduced : goal.returns-clause-reduced
returns-clause-reduced c = rw c.compact.ensures.same (reduced_noted c.args.self.now c.due_deletions.new.self c.delete_learnt.new.self c.due_deletions.ensures c.in_ok-delete_learnt.ensures.reduced)

pub returns-clause-logged : goal.returns-clause-logged
returns-clause-logged c = λ f logged. rw c.compact.ensures.same (c.in_ok-delete_learnt.ensures.logged f (logged_after f c.args.self.now c.due_deletions.new.self c.due_deletions.ensures logged))

pub returns-then-is_empty-clause-logged : goal.returns-then-is_empty-clause-logged
returns-then-is_empty-clause-logged c = λ f logged. c.in_ok-delete_learnt.ensures.logged f (logged_after f c.args.self.now c.due_deletions.new.self c.due_deletions.ensures logged)
