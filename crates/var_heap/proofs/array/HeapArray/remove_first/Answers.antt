use Rattle.std.proofs.Common.{refl, arith, sym}
use Rattle.var_heap.proofs.Standing.{read_standing, standing_inside}
use Rattle.var_heap.proofs.Filling.{taken_at, taken_marks, taken_row}
use Rattle.var_heap.proofs.array.HeapArray.remove_first.Goals as goal

pub index_mut-requires-2 : goal.index_mut-requires-2
index_mut-requires-2 c =
    let low = standing_inside c.args.self.now c.args.self.now.len c.index-last.result.now c.requires.array c.requires.some (omega arith) c.index-last.ensures in
    omega (arith, low, c.args.self.now.places.ok.0)

pub index_mut-requires-3 : goal.index_mut-requires-3
index_mut-requires-3 c =
    let low = standing_inside c.args.self.now 1 c.index-first.result.now c.requires.array (omega arith) (omega (arith, c.requires.some)) c.index-first.ensures in
    omega (arith, low, c.args.self.now.places.ok.0)

pub returns-clause-array : goal.returns-clause-array
returns-clause-array c = taken_row c.args.self.now _ c.index-first.result.now c.index-last.result.now c.requires.array (record {
  heap = refl;
  places = refl;
  len = refl;
  some = c.requires.some;
  at_first = read_standing c.args.self.now 1 c.index-first.result.now c.requires.array (omega arith) (omega (arith, c.requires.some)) c.index-first.ensures;
  at_last = read_standing c.args.self.now c.args.self.now.len c.index-last.result.now c.requires.array c.requires.some (omega arith) c.index-last.ensures;
})

pub returns-clause-first : goal.returns-clause-first
returns-clause-first c = sym (read_standing c.args.self.now 1 c.index-first.result.now c.requires.array (omega arith) (omega (arith, c.requires.some)) c.index-first.ensures)

pub returns-clause-at : goal.returns-clause-at
returns-clause-at c = taken_at c.args.self.now c.index-last.result.now c.requires.array c.requires.some
    (read_standing c.args.self.now c.args.self.now.len c.index-last.result.now c.requires.array c.requires.some
    (omega arith) c.index-last.ensures)

pub returns-clause-marks : goal.returns-clause-marks
returns-clause-marks c = taken_marks c.args.self.now c.index-first.result.now c.index-last.result.now c.requires.array
    c.requires.some (read_standing c.args.self.now c.args.self.now.len c.index-last.result.now c.requires.array
    c.requires.some (omega arith) c.index-last.ensures)
