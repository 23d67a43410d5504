use Rattle.std.proofs.Common.{◌+◌, refl, arith}
use Rattle.var_heap.proofs.Writing.{entry-set}
use Rattle.var_heap.proofs.Filling.{put_low, put_at, put_marks, put_row}
use Rattle.var_heap.proofs.array.HeapArray.put.Goals as goal

pub index_mut-requires : goal.index_mut-requires
index_mut-requires c =
    let low = put_low c.args.self.now c.args.v c.requires.array c.requires.variable.0 c.requires.variable.1 c.requires.free in
    omega (arith, low, c.requires.array.room, c.args.self.now.heap.ok.0)

pub overflow_cast-self : goal.overflow_cast-self
overflow_cast-self c = let low = put_low c.args.self.now c.args.v c.requires.array c.requires.variable.0 c.requires.variable.1 c.requires.free in omega (arith, low, c.requires.array.few)

pub returns-clause-array : goal.returns-clause-array
returns-clause-array c = put_row c.args.self.now _ c.args.v c.requires.array (record {
  heap = refl;
  places = refl;
  len = refl;
  some = c.requires.variable.0;
  low = c.requires.variable.1;
  free = c.requires.free;
})

pub returns-clause-at : goal.returns-clause-at
returns-clause-at c = put_at c.args.self.now c.args.v c.requires.array c.requires.variable.0 c.requires.variable.1 c.requires.free

pub returns-clause-place : goal.returns-clause-place
returns-clause-place c = entry-set c.args.self.now.places.items c.args.v (c.args.self.now.len + 1) c.requires.variable.1

pub returns-clause-marks : goal.returns-clause-marks
returns-clause-marks c = put_marks c.args.self.now.places.items c.args.v c.args.self.now.len
