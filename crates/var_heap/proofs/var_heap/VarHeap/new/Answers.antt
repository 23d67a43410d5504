use Rattle.std.proofs.Common.{rules}
use Rattle.var_heap.proofs.Holding.{full_heap, full_shown, heap_whole}
use Rattle.var_heap.proofs.var_heap.VarHeap.new.Goals as goal

pub invariant_of-result : goal.invariant_of-result
invariant_of-result c = full_heap c.args.vars c.in_ok-scores.scores.items c.in_ok-array.array (search rules) c.in_ok-array.ensures.array c.in_ok-array.ensures.room

pub returns-clause-full : goal.returns-clause-full
returns-clause-full c = full_shown c.args.vars c.in_ok-scores.scores.items c.in_ok-array.array (search rules) c.in_ok-array.ensures.array c.in_ok-array.ensures.room c.in_ok-array.ensures.filled

pub returns-clause-whole : goal.returns-clause-whole
returns-clause-whole c = heap_whole c.args.vars c.in_ok-scores.scores.items c.in_ok-array.array
    (full_heap c.args.vars c.in_ok-scores.scores.items c.in_ok-array.array (search rules) c.in_ok-array.ensures.array
    c.in_ok-array.ensures.room)
