use Rattle.var_heap.proofs.Holding.{heap_whole}
use Rattle.var_heap.proofs.var_heap.VarHeap.contains.Goals as goal

pub returns-clause-whole : goal.returns-clause-whole
returns-clause-whole c = rw (← c.self.view_is) (heap_whole c.self.inside.vars c.self.inside.scores.items c.self.inside.array c.self.invariant)
