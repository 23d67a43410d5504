use Rattle.std.proofs.Common.{◌<◌, ◌≤◌, ◌*◌, arith}
use Rattle.var_heap.specs.declared.array.HeapArray.{HeapArray}
use Rattle.var_heap.specs.Entries.{entry}
use Rattle.var_heap.specs.HeapArrays.{at, IsOrderedBelow, IsGreaterChild}
use Rattle.var_heap.proofs.Standing.{standing_inside, score_at, moved_trans}
use Rattle.var_heap.proofs.Heaps.{ordered_down, ordered_below}
use Rattle.var_heap.proofs.array.HeapArray.down.Goals as goal

pub bounds-scores-index : goal.bounds-scores-index
bounds-scores-index c =
    let child : IsGreaterChild (at c.loop-below.self) (entry c.args.scores.now) c.loop-below.self.len c.loop-below.place c.in-Some.below = c.in-Some.ensures.some in
    let low = standing_inside c.loop-below.self c.in-Some.below c.index.result.now c.loop-below.invariant.array (omega (arith, child.under.0, child.under.1)) child.inside c.index.ensures in
    omega (arith, low, c.requires.scores, c.loop-below.invariant.moved.room)

pub bounds-scores-index-in-Some : goal.bounds-scores-index-in-Some
bounds-scores-index-in-Some c =
    let low = standing_inside c.loop-below.self c.loop-below.place c.index-in-Some.result.now
    c.loop-below.invariant.array c.loop-below.invariant.inside.0 c.loop-below.invariant.inside.1
    c.index-in-Some.ensures in
    omega (arith, low, c.requires.scores, c.loop-below.invariant.moved.room)

pub returns-then-scores-index-clause-ordered : goal.returns-then-scores-index-clause-ordered
returns-then-scores-index-clause-ordered c =
    let r : HeapArray = c.loop-below.self in
    let i = c.loop-below.place in
    let child : IsGreaterChild (at r) (entry c.args.scores.now) r.len i c.in-Some.below = c.in-Some.ensures.some in
    let b = score_at r c.args.scores.now c.in-Some.below c.index.result.now c.loop-below.invariant.array (omega (arith, child.under.0, child.under.1)) child.inside c.index.ensures in
    let a = score_at r c.args.scores.now i c.index-in-Some.result.now c.loop-below.invariant.array c.loop-below.invariant.inside.0 c.loop-below.invariant.inside.1 c.index-in-Some.ensures in
    let low : entry c.args.scores.now (at r c.in-Some.below) ≤ entry c.args.scores.now (at r i) = omega (arith, a, b, c.if-scores-index.true) in
    ordered_below (at r) (entry c.args.scores.now) r.len i c.loop-below.invariant.ordered (λ p within under.
    (let h : entry c.args.scores.now (at r p) ≤ entry c.args.scores.now (at r c.in-Some.below) =
    child.greater p within under in omega (arith, h, low)))

pub returns-clause-ordered : goal.returns-clause-ordered
returns-clause-ordered c =
    ordered_below (at c.loop-below.self) (entry c.args.scores.now) c.loop-below.self.len c.loop-below.place c.loop-below.invariant.ordered
    (λ p within under. absurd (let none : c.loop-below.self.len < 2 * c.loop-below.place = c.in_default.ensures.none in omega (arith, none, within, under.1)))

pub loop-below-preserved : goal.loop-below-preserved
loop-below-preserved c =
    let r : HeapArray = c.loop-below.self in
    let i = c.loop-below.place in
    let child : IsGreaterChild (at r) (entry c.args.scores.now) r.len i c.in-Some.below = c.in-Some.ensures.some in
    let b = score_at r c.args.scores.now c.in-Some.below c.index.result.now c.loop-below.invariant.array (omega (arith, child.under.0, child.under.1)) child.inside c.index.ensures in
    let a = score_at r c.args.scores.now i c.index-in-Some.result.now c.loop-below.invariant.array c.loop-below.invariant.inside.0 c.loop-below.invariant.inside.1 c.index-in-Some.ensures in
    let less : entry c.args.scores.now (at r i) < entry c.args.scores.now (at r c.in-Some.below) = omega (arith, a, b, c.if-scores-index.false) in
    let down : IsOrderedBelow _ (entry c.args.scores.now) r.len c.in-Some.below = ordered_down (at r) (entry c.args.scores.now) r.len i c.in-Some.below c.loop-below.invariant.ordered child less in
    record {
      array = c.swap.ensures.array;
      moved = moved_trans c.args.self.now r c.swap.new.self c.loop-below.invariant.moved c.swap.ensures.moved;
      inside = (omega (arith, child.under.0, child.under.1), omega (arith, c.swap.ensures.moved.len, child.inside));
      ordered = rw (c.swap.ensures.swapped, c.swap.ensures.moved.len) down;
    }
