use Rattle.std.proofs.Common.{◌≡◌, ℕ, ◌<◌, ◌≤◌, ◌/◌, arith, subst}
use Rattle.var_heap.specs.declared.array.HeapArray.{HeapArray}
use Rattle.var_heap.specs.Entries.{entry}
use Rattle.var_heap.specs.HeapArrays.{at, IsOrderedAbove, IsUnder}
use Rattle.var_heap.proofs.Standing.{standing_inside, score_at, moved_trans}
use Rattle.var_heap.proofs.Heaps.{ordered_up, ordered_above}
use Rattle.var_heap.proofs.array.HeapArray.up.Goals as goal

pub bounds-scores-index : goal.bounds-scores-index
bounds-scores-index c =
    let low = standing_inside c.loop-place.self c.loop-place.place c.index.result.now c.loop-place.invariant.array c.loop-place.invariant.inside.0 c.loop-place.invariant.inside.1 c.index.ensures in
    omega (arith, low, c.requires.scores, c.loop-place.invariant.moved.room)

pub bounds-scores-index-in-loop-place : goal.bounds-scores-index-in-loop-place
bounds-scores-index-in-loop-place c =
    let low = standing_inside c.loop-place.self (c.loop-place.place / 2) c.index-in-loop-place.result.now
    c.loop-place.invariant.array (omega (arith, c.loop-place-test.true)) (omega (arith, c.loop-place.invariant.inside))
    c.index-in-loop-place.ensures in
    omega (arith, low, c.requires.scores, c.loop-place.invariant.moved.room)

pub returns-then-scores-index-clause-ordered : goal.returns-then-scores-index-clause-ordered
returns-then-scores-index-clause-ordered c =
    let r : HeapArray = c.loop-place.self in
    let i = c.loop-place.place in
    let a = score_at r c.args.scores.now i c.index.result.now c.loop-place.invariant.array c.loop-place.invariant.inside.0 c.loop-place.invariant.inside.1 c.index.ensures in
    let b = score_at r c.args.scores.now (i / 2) c.index-in-loop-place.result.now c.loop-place.invariant.array
    (omega (arith, c.loop-place-test.true)) (omega (arith, c.loop-place.invariant.inside))
    c.index-in-loop-place.ensures in
    let low : entry c.args.scores.now (at r i) ≤ entry c.args.scores.now (at r (i / 2)) = omega (arith, a, b, c.if-scores-index.true) in
    ordered_above (at r) (entry c.args.scores.now) r.len i c.loop-place.invariant.ordered
    (λ q under. (let e : i / 2 ≡ q = omega (arith, under.1, under.2) in subst (λ (x : ℕ). entry c.args.scores.now (at r i) ≤ entry c.args.scores.now (at r x)) e low))

pub returns-clause-ordered : goal.returns-clause-ordered
returns-clause-ordered c =
    ordered_above (at c.loop-place.self) (entry c.args.scores.now) c.loop-place.self.len c.loop-place.place c.loop-place.invariant.ordered
    (λ q under. absurd (omega (arith, under.0, under.1, c.loop-place-test.false)))

pub loop-place-preserved : goal.loop-place-preserved
loop-place-preserved c =
    let r : HeapArray = c.loop-place.self in
    let i = c.loop-place.place in
    let a = score_at r c.args.scores.now i c.index.result.now c.loop-place.invariant.array c.loop-place.invariant.inside.0 c.loop-place.invariant.inside.1 c.index.ensures in
    let b = score_at r c.args.scores.now (i / 2) c.index-in-loop-place.result.now c.loop-place.invariant.array
    (omega (arith, c.loop-place-test.true)) (omega (arith, c.loop-place.invariant.inside))
    c.index-in-loop-place.ensures in
    let less : entry c.args.scores.now (at r (i / 2)) < entry c.args.scores.now (at r i) = omega (arith, a, b, c.if-scores-index.false) in
    let under : IsUnder i (i / 2) = (omega (arith, c.loop-place-test.true), omega arith, omega arith) in
    let up : IsOrderedAbove _ (entry c.args.scores.now) r.len (i / 2) =
    ordered_up (at r) (entry c.args.scores.now) r.len i
    (i / 2) c.loop-place.invariant.ordered c.loop-place.invariant.inside.1 under less in
    record {
      array = c.swap.ensures.array;
      moved = moved_trans c.args.self.now r c.swap.new.self c.loop-place.invariant.moved c.swap.ensures.moved;
      inside = (omega (arith, c.loop-place-test.true), omega (arith, c.swap.ensures.moved.len, c.loop-place.invariant.inside));
      ordered = rw (c.swap.ensures.swapped, c.swap.ensures.moved.len) up;
    }
