use Rattle.std.proofs.Common.{ap, ◌∙◌, arith}
use Rattle.var_heap.specs.Held.{Held}
use Rattle.var_heap.proofs.Standing.{read_entry}
use Rattle.var_heap.proofs.Holding.{held_stays, row_whole, heap_whole}
use Rattle.var_heap.proofs.var_heap.VarHeap.push.Goals as goal

pub returns-then-index-gt0-clause-held : goal.returns-then-index-gt0-clause-held
returns-then-index-gt0-clause-held c =
    let vars = ap (λ (h : Held). h.vars) c.self.view_is in
    let is = read_entry c.self.inside.array.places.items c.args.v c.index.result.now (omega (arith, vars, c.requires.1, c.self.invariant.places_room)) c.index.ensures in
    held_stays c.args.self.now c.self.inside.vars c.self.inside.scores.items c.self.inside.array c.args.v c.self.view_is (rw is c.if-index-gt0.true)

pub put-requires-clause-free : goal.put-requires-clause-free
put-requires-clause-free c =
    let vars = ap (λ (h : Held). h.vars) c.self.view_is in
    let is = read_entry c.self.inside.array.places.items c.args.v c.index.result.now (omega (arith, vars, c.requires.1, c.self.invariant.places_room)) c.index.ensures in
    is ∙ omega (arith, c.if-index-gt0.false)

pub returns-then-index-gt0-clause-whole : goal.returns-then-index-gt0-clause-whole
returns-then-index-gt0-clause-whole c = rw (← c.self.view_is) (heap_whole c.self.inside.vars c.self.inside.scores.items c.self.inside.array c.self.invariant)

pub returns-clause-whole : goal.returns-clause-whole
returns-clause-whole c = row_whole c.self.inside.vars c.self.inside.scores.items c.up.new.self c.up.ensures.array
    c.self.invariant.scores_room (c.up.ensures.moved.room ∙ c.put.ensures.room ∙ c.self.invariant.places_room)
