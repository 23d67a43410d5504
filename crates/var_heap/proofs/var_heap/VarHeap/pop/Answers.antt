use Rattle.std.proofs.Common.{◌∙◌, arith}
use Rattle.var_heap.proofs.Holding.{greatest_first, none_held, row_whole, heap_whole}
use Rattle.var_heap.proofs.var_heap.VarHeap.pop.Goals as goal

pub returns-then-self-eq0-clause-none : goal.returns-then-self-eq0-clause-none
returns-then-self-eq0-clause-none c = λ v held. none_held c.args.self.now c.self.inside.vars c.self.inside.scores.items
    c.self.inside.array v c.self.view_is c.self.invariant.array c.if-self-eq0.true held

pub returns-then-self-gt0-clause-greatest : goal.returns-then-self-gt0-clause-greatest
returns-then-self-gt0-clause-greatest c = greatest_first c.args.self.now c.self.inside.vars c.self.inside.scores.items
    c.self.inside.array c.remove_first-first.result c.self.view_is c.self.invariant
    (omega (arith, c.if-self-eq0.false)) c.remove_first-first.ensures.first

pub returns-else-self-gt0-clause-greatest : goal.returns-else-self-gt0-clause-greatest
returns-else-self-gt0-clause-greatest c = greatest_first c.args.self.now c.self.inside.vars c.self.inside.scores.items
    c.self.inside.array c.remove_first-first.result c.self.view_is c.self.invariant
    (omega (arith, c.if-self-eq0.false)) c.remove_first-first.ensures.first

pub returns-then-self-eq0-clause-whole : goal.returns-then-self-eq0-clause-whole
returns-then-self-eq0-clause-whole c = rw (← c.self.view_is) (heap_whole c.self.inside.vars c.self.inside.scores.items c.self.inside.array c.self.invariant)

pub returns-then-self-gt0-clause-whole : goal.returns-then-self-gt0-clause-whole
returns-then-self-gt0-clause-whole c = row_whole c.self.inside.vars c.self.inside.scores.items c.down.new.self
    c.down.ensures.array c.self.invariant.scores_room (c.down.ensures.moved.room ∙ c.remove_first-first.ensures.room
    ∙ c.self.invariant.places_room)

pub returns-else-self-gt0-clause-whole : goal.returns-else-self-gt0-clause-whole
returns-else-self-gt0-clause-whole c = row_whole c.self.inside.vars c.self.inside.scores.items
    c.remove_first-first.new.self c.remove_first-first.ensures.array c.self.invariant.scores_room
    (c.remove_first-first.ensures.room ∙ c.self.invariant.places_room)
