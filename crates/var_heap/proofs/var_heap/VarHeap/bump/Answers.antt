use Rattle.std.proofs.Common.{◌≤◌, ℕ, ap, ◌∙◌, subst, arith, rules, slice_index_or}
use Rattle.std.proofs.lemmas.List.{get_or_read, length-set}
use Rattle.var_heap.specs.Held.{Held}
use Rattle.var_heap.proofs.Standing.{read_entry}
use Rattle.var_heap.proofs.Holding.{risen_above, risen_elsewhere, row_whole}
use Rattle.var_heap.proofs.var_heap.VarHeap.bump.Goals as goal

pub up-requires-clause-inside : goal.up-requires-clause-inside
up-requires-clause-inside c =
    let vars = ap (λ (h : Held). h.vars) c.self.view_is in
    let is = read_entry c.self.inside.array.places.items c.args.v c.index-2.result.now (omega (arith, vars, c.requires.1, c.self.invariant.places_room)) c.index-2.ensures in
    (c.if-place-gt0.true, subst (λ (p : ℕ). p ≤ c.self.inside.array.len) is (c.self.invariant.array.arranged.within c.args.v (rw is c.if-place-gt0.true)))

pub up-requires-clause-ordered : goal.up-requires-clause-ordered
up-requires-clause-ordered c =
    let vars = ap (λ (h : Held). h.vars) c.self.view_is in
    let is = read_entry c.self.inside.array.places.items c.args.v c.index-2.result.now (omega (arith, vars, c.requires.1, c.self.invariant.places_room)) c.index-2.ensures in
    let read = get_or_read c.self.inside.scores.items c.args.v c.index.result.now (omega (arith, vars, c.requires.1, c.self.invariant.scores_room)) c.index.ensures 0 in
    let small : c.index.result.now ≤ 18446744073709551615 = search rules in
    let rise : slice_index_or c.self.inside.scores.items c.args.v 0 ≤ c.saturating_add.result = omega (arith, c.saturating_add.ensures, read, small) in
    risen_above c.self.inside.vars c.self.inside.scores.items c.deref.result.now c.self.inside.array c.args.v
    c.saturating_add.result c.index-2.result.now c.self.invariant
    (omega (arith, vars, c.requires.1)) c.deref.ensures.value is c.if-place-gt0.true rise

pub invariant_of-self-else-place-gt0 : goal.invariant_of-self-else-place-gt0
invariant_of-self-else-place-gt0 c =
    let vars = ap (λ (h : Held). h.vars) c.self.view_is in
    let is = read_entry c.self.inside.array.places.items c.args.v c.index-2.result.now (omega (arith, vars, c.requires.1, c.self.invariant.places_room)) c.index-2.ensures in
    risen_elsewhere c.self.inside.vars c.self.inside.scores.items c.self.inside.array c.args.v c.saturating_add.result
    c.self.invariant (omega (arith, vars, c.requires.1)) (is ∙ omega (arith, c.if-place-gt0.false))

pub returns-then-place-gt0-clause-whole : goal.returns-then-place-gt0-clause-whole
returns-then-place-gt0-clause-whole c = row_whole c.self.inside.vars _ c.up.new.self c.up.ensures.array
    (length-set c.self.inside.scores.items c.args.v c.saturating_add.result
    ∙ c.self.invariant.scores_room) (c.up.ensures.moved.room ∙ c.self.invariant.places_room)

pub returns-else-place-gt0-clause-whole : goal.returns-else-place-gt0-clause-whole
returns-else-place-gt0-clause-whole c = row_whole c.self.inside.vars _ c.self.inside.array c.self.invariant.array
    (length-set c.self.inside.scores.items c.args.v c.saturating_add.result
    ∙ c.self.invariant.scores_room) c.self.invariant.places_room
