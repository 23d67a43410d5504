use Rattle.std.proofs.Common.{◌≤◌, ◌+◌, ◌*◌, arith}
use Rattle.var_heap.specs.Entries.{entry}
use Rattle.var_heap.specs.HeapArrays.{at}
use Rattle.var_heap.proofs.Standing.{standing_inside, score_at}
use Rattle.var_heap.proofs.Heaps.{greater_left, greater_right}
use Rattle.var_heap.proofs.array.HeapArray.greater_below.Goals as goal

pub bounds-scores-index : goal.bounds-scores-index
bounds-scores-index c =
    let low = standing_inside c.args.self.now (2 * c.args.above) c.index.result.now c.requires.array (omega (arith, c.requires.inside)) (omega (arith, c.if-left-self.false)) c.index.ensures in
    omega (arith, low, c.requires.scores)

pub bounds-scores-index-2 : goal.bounds-scores-index-2
bounds-scores-index-2 c =
    let low = standing_inside c.args.self.now (2 * c.args.above + 1) c.index-2.result.now c.requires.array
    (omega (arith, c.requires.inside)) (omega (arith, c.if-left-self.false, c.if-left-self-2.false)) c.index-2.ensures
    in
    omega (arith, low, c.requires.scores)

pub returns-then-scores-index-clause-some : goal.returns-then-scores-index-clause-some
returns-then-scores-index-clause-some c =
    let q = c.args.above in
    let right : 2 * q + 1 ≤ c.args.self.now.len = omega (arith, c.if-left-self.false, c.if-left-self-2.false) in
    let a = score_at c.args.self.now c.args.scores.now (2 * q) c.index.result.now c.requires.array (omega (arith, c.requires.inside)) (omega (arith, c.if-left-self.false)) c.index.ensures in
    let b = score_at c.args.self.now c.args.scores.now (2 * q + 1) c.index-2.result.now c.requires.array (omega (arith, c.requires.inside)) right c.index-2.ensures in
    greater_right (at c.args.self.now) (entry c.args.scores.now) c.args.self.now.len q c.requires.inside.0 right (omega (arith, a, b, c.if-scores-index.true))

pub returns-clause-some : goal.returns-clause-some
returns-clause-some c =
    let q = c.args.above in
    let right : 2 * q + 1 ≤ c.args.self.now.len = omega (arith, c.if-left-self.false, c.if-left-self-2.false) in
    let a = score_at c.args.self.now c.args.scores.now (2 * q) c.index.result.now c.requires.array (omega (arith, c.requires.inside)) (omega (arith, c.if-left-self.false)) c.index.ensures in
    let b = score_at c.args.self.now c.args.scores.now (2 * q + 1) c.index-2.result.now c.requires.array (omega (arith, c.requires.inside)) right c.index-2.ensures in
    greater_left (at c.args.self.now) (entry c.args.scores.now) c.args.self.now.len q c.requires.inside.0 (omega (arith, right)) (omega (arith, a, b, c.if-scores-index.false))
